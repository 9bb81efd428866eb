use Rattle.std.proofs.Common.{◌≡◌, ℕ, ◌≤◌, ◌<◌, length, Some, slice_get}
use Rattle.sim_worker.specs.Work.{steps_of, Driver}
use Rattle.sim_worker.proofs.sim.Sim.are_drivers_done.Given as goal

abbrev pub invariant-loop-d : goal.invariant-loop-d
invariant-loop-d l = (d : ℕ) → (w : Driver) → d < l.d → slice_get l.self.drivers d ≡ Some w → length (steps_of l.self.script d) ≤ w.done
