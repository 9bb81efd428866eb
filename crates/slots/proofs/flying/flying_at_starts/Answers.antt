use Rattle.std.proofs.Common.{arith, map, get_or}
use Rattle.slots.specs.Flights.{Flight, span_held}
use Rattle.slots.specs.Spans.{covering}
use Rattle.slots.proofs.ListLemmas.{map_step}
use Rattle.slots.proofs.BoundLemmas.{flying_read, flying_few}
use Rattle.slots.proofs.ServiceLemmas.{no_flight}
use Rattle.slots.proofs.flying.flying_at_starts.Goals as goal

pub covering-requires : goal.covering-requires
covering-requires c = c.in_ok-bounds.ensures.order

pub overflow_cast-covering : goal.overflow_cast-covering
overflow_cast-covering c =
    let fs = c.args.flights.now in
    let t = (get_or fs c.loop-flight.flight-index no_flight).start in
    let is = flying_read c.args.usual fs _ _ _ _ t c.covering.result c.in_ok-spans.ensures c.deref.ensures.value c.in_ok-bounds.ensures (omega arith) c.covering.ensures in
    let few = flying_few c.args.usual fs t in
    omega (arith, is, few, c.requires.few)

pub loop-flight-preserved : goal.loop-flight-preserved
loop-flight-preserved c =
    let fs = c.args.flights.now in
    let t = (get_or fs c.loop-flight.flight-index no_flight).start in
    let is = flying_read c.args.usual fs _ _ _ _ t c.covering.result c.in_ok-spans.ensures c.deref.ensures.value c.in_ok-bounds.ensures (omega arith) c.covering.ensures in
    map_step (λ (f : Flight). covering (map (span_held c.args.usual) fs) f.start) fs c.loop-flight.flight-index no_flight c.covering.result _ _ c.loop-flight-test.true c.loop-flight.invariant c.in_ok-push.ensures.items is
