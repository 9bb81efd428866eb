use Rattle.std.proofs.Common.{ap, arith}
use Rattle.event_rules.proofs.LimitLemmas.{stays-legal}
use Rattle.event_rules.proofs.TotalLaws.{commands-stays}
use Rattle.event_rules.specs.Legal.{Rules}
use Rattle.camxpt_c.proofs.port.Port.of.Goals as goal

pub with_room-requires : goal.with_room-requires
with_room-requires c =
    let x = c.args.xpt in
    omega (arith, c.requires, commands-stays x.events, stays-legal x.rules x.config x.events c.events-events.ensures.legal, c.stays.ensures.same, ap (λ (r : Rules). r.stays) c.rules.ensures)
