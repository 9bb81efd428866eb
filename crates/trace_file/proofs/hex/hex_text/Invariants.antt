use Rattle.std.proofs.Common.{◌≡◌, ◌*◌, length, take}
use Rattle.trace_file.specs.Records.{hex}
use Rattle.trace_file.proofs.hex.hex_text.Given as goal

abbrev pub invariant-loop-i : goal.invariant-loop-i
invariant-loop-i l = (length l.text ≡ 36) × (take (2 * l.i) l.text ≡ hex (take l.i l.bytes))
