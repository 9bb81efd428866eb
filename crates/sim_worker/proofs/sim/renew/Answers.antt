use Rattle.std.proofs.Common.{◌∙◌, refl, false, arith}
use Rattle.sim_worker.specs.Work.{Driver}
use Rattle.sim_worker.proofs.ListFacts.{map_kept}
use Rattle.sim_worker.proofs.sim.renew.Goals as goal

pub loop-driver-preserved : goal.loop-driver-preserved
loop-driver-preserved c = map_kept (λ (w : Driver). w.done) c.loop-driver.driver-items c.loop-driver.driver-index (record { done = 0; refused = false }) _ refl (omega (arith, c.loop-driver-test.true, c.loop-driver.auto.driver-items)) ∙ c.loop-driver.invariant
