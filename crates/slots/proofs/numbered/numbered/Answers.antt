use Rattle.std.proofs.Common.{ap, get_or}
use Rattle.slots.specs.Windowed.{numbered_among}
use Rattle.slots.proofs.ListLemmas.{map_step}
use Rattle.slots.proofs.ServiceLemmas.{no_flight}
use Rattle.slots.proofs.numbered.numbered.Goals as goal

pub loop-flight-preserved : goal.loop-flight-preserved
loop-flight-preserved c =
    let fs = c.args.flights.now in
    let f = get_or fs c.loop-flight.flight-index no_flight in
    let is = c.at.ensures c.args.all.now c.in_ok-counts.ensures in
    map_step (numbered_among c.args.all.now) fs c.loop-flight.flight-index no_flight _ _ _ c.loop-flight-test.true c.loop-flight.invariant c.in_ok-push.ensures.items (ap (λ n. record { flight = f; number = n }) is)
