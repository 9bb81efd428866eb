use Rattle.std.proofs.Common.{map, ap, ◌∙◌}
use Rattle.conversions.specs.Steps.{steps_of}
use Rattle.conversions.proofs.ArrivalLemmas.{lists_more}
use Rattle.conversions.proofs.drivers.drivers_of.Goals as goal

pub loop-driver-preserved : goal.loop-driver-preserved
loop-driver-preserved c =
    ap (map (λ l. l.items)) c.in_ok-push.ensures.items
    ∙ lists_more (λ l. l.items) (steps_of c.args.all.now) c.loop-driver.drivers.items c.loop-driver.driver c.in_ok-steps_of.field-0 c.loop-driver.invariant c.in_ok-steps_of.ensures
