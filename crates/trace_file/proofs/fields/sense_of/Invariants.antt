use Rattle.std.proofs.Common.{◌≡◌, ◌*◌, length, take, drop}
use Rattle.trace_file.specs.Fields.{bytes_of}
use Rattle.trace_file.proofs.FieldLemmas.{with_front}
use Rattle.trace_file.proofs.fields.sense_of.Given as goal

abbrev pub invariant-loop-i : goal.invariant-loop-i
invariant-loop-i l = (length l.bytes ≡ 18) × (with_front (take l.i l.bytes) (bytes_of (drop (2 * l.i) l.field)) ≡ bytes_of l.field)
