use Rattle.std.proofs.Common.{◌≡◌, flat_map}
use Rattle.wait_causes.specs.BlameLists.{stays_in, who_in}
use Rattle.wait_causes.specs.BlameRows.{everybody, rows_for}
use Rattle.wait_causes.proofs.blame.table.all_rows.Given as goal

abbrev pub invariant-loop-number : goal.invariant-loop-number
invariant-loop-number l = l.rows.items ≡ flat_map (rows_for (who_in l.explanation l.by) l.by (stays_in l.explanation) l.count) (everybody l.number)
