use Rattle.std.proofs.Common.{◌≡◌, ℕ, ◌<◌, ◌≤◌, ◌++◌, [], ◌∷◌, Some, length, slice_get}
use Rattle.sim_worker.specs.Words.{Held, Driver}
use Rattle.sim_worker.specs.LiveRuns.{rows}
use Rattle.sim_worker.specs.Walks.{AreOn, AreRising, IsOf, IsOn, Walk}
use Rattle.sim_worker.proofs.run_replay.walk_all.Given as goal

abbrev pub invariant-loop-i : goal.invariant-loop-i
invariant-loop-i l = record {
  same : length l.walks ≡ length l.fn.walks;
  behind : IsOf l.script l.xpt → AreRising l.logs → AreOn l.script l.logs l.xpt.events l.fn.walks →
      (k d : ℕ) (h : Held) (w : Walk) → k < l.i → slice_get l.logs k ≡ Some h → slice_get l.walks k ≡ Some w → h.name ≡ Driver d → IsOn l.script (rows l.script d) h.receipts (l.xpt.events ++ l.event ∷ []) w;
  ahead : (k : ℕ) → l.i ≤ k → slice_get l.walks k ≡ slice_get l.fn.walks k;
}
