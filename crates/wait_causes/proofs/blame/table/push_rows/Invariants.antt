use Rattle.std.proofs.Common.{◌≡◌, ◌++◌, flat_map}
use Rattle.std.specs.List.{range_with_len}
use Rattle.wait_causes.specs.BlameLists.{stays_in, who_in}
use Rattle.wait_causes.specs.BlameRows.{row_of}
use Rattle.wait_causes.proofs.BlameAmountLemmas.{amounts_at}
use Rattle.wait_causes.proofs.blame.table.push_rows.Given as goal

abbrev pub invariant-loop-waiting : goal.invariant-loop-waiting
invariant-loop-waiting l = l.rows.items ≡ l.fn.rows.items ++ flat_map (λ n. row_of n l.number (amounts_at (who_in l.explanation l.fn.by) l.number l.fn.by (stays_in l.explanation) n)) (range_with_len 0 l.waiting)
