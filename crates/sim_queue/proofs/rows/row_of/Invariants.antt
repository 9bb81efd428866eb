use Rattle.std.proofs.Common.{◌≢◌, ℕ, ◌<◌, get_or}
use Rattle.sim_queue.specs.Adapter.{Row}
use Rattle.sim_queue.proofs.rows.row_of.Given as goal

-- no row so far is the device's
abbrev pub invariant-loop-at : goal.invariant-loop-at
invariant-loop-at l = (k : ℕ) (d : Row) → k < l.at → (get_or l.rows k d).device ≢ l.device
