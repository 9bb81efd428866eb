use Rattle.std.proofs.Common.{◌≡◌, ℕ, ◌<◌, length, get_or}
use Rattle.sweep.specs.Rows.{Row, IsRowOf, part}
use Rattle.sweep.proofs.all_runs.rows_of.Given as goal

abbrev pub invariant-loop-at : goal.invariant-loop-at
invariant-loop-at l = (length l.rows.items ≡ l.at) × ((k : ℕ) (d : Row) → k < l.at → IsRowOf (part l.tallies l.seeds k) (get_or l.rows.items k d))
