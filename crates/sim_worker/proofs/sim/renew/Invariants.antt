use Rattle.std.proofs.Common.{◌≡◌, map}
use Rattle.sim_worker.specs.Work.{Driver}
use Rattle.sim_worker.proofs.sim.renew.Given as goal

abbrev pub invariant-loop-driver : goal.invariant-loop-driver
invariant-loop-driver l = map (λ (w : Driver). w.done) l.driver-items ≡ map (λ (w : Driver). w.done) l.fn.drivers
