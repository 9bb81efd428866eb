use Rattle.std.proofs.Common.{◌≡◌, ◌+◌, ◌≤◌, drop}
use Rattle.csv.specs.Records.{fields_of}
use Rattle.record_text.specs.Fields.{unused}
use Rattle.record_text.proofs.fields.unused_from.Given as goal

abbrev pub invariant-loop-place : goal.invariant-loop-place
invariant-loop-place l = (l.place ≤ 8) × (unused (l.place + 1) (drop l.place (fields_of l.row)) ≡ unused (l.at + 1) (drop l.at (fields_of l.row)))
