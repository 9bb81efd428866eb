use Rattle.std.proofs.Common.{◌≡◌, ℕ, ◌<◌, Some, List, slice_get}
use Rattle.sim_worker.specs.Words.{Event, Held, Driver, round}
use Rattle.sim_worker.specs.LiveRuns.{rows}
use Rattle.sim_worker.specs.Logs.{HasDoneAll}
use Rattle.sim_worker.specs.Walks.{ArePlaced, AreWalked}
use Rattle.sim_worker.proofs.endings.are_done.Given as goal

abbrev pub invariant-loop-i : goal.invariant-loop-i
invariant-loop-i l = (events : List Event) → l.now ≡ round events → AreWalked l.script l.logs events → ArePlaced l.logs events →
    (k d : ℕ) (h : Held) → k < l.i → slice_get l.logs k ≡ Some h → h.name ≡ Driver d → HasDoneAll (rows l.script d) h.receipts events
