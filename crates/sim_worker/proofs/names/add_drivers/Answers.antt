use Rattle.std.proofs.Common.{◌∙◌, sym}
use Rattle.sim_worker.proofs.NameLemmas.{one_driver_more, no_driver_more}
use Rattle.sim_worker.proofs.names.add_drivers.Goals as goal

pub loop-driver-preserved : goal.loop-driver-preserved
loop-driver-preserved c = one_driver_more c.args.script.now c.loop-driver.driver _ _ c.loop-driver.invariant (sym c.has_row.ensures ∙ c.if-not-has_row.false) c.in_ok-push.ensures.items

pub loop-driver-preserved-then-not-has_row : goal.loop-driver-preserved-then-not-has_row
loop-driver-preserved-then-not-has_row c = no_driver_more c.args.script.now c.loop-driver.driver _ c.loop-driver.invariant (sym c.has_row.ensures ∙ c.if-not-has_row.true)
