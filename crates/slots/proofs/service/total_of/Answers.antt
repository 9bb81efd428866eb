use Rattle.std.proofs.Common.{arith, is_some}
use Rattle.slots.specs.Flights.{time_of_service}
use Rattle.slots.proofs.ListLemmas.{sum_step, length_step, one_at_most}
use Rattle.slots.proofs.ServiceLemmas.{no_flight}
use Rattle.slots.proofs.service.total_of.Goals as goal

pub with-total-requires : goal.with-total-requires
with-total-requires c = omega (arith, c.loop-flight.invariant.few, c.requires.few, c.loop-flight-test.true)

pub loop-flight-preserved : goal.loop-flight-preserved
loop-flight-preserved c =
    let h = c.loop-flight.invariant in
    record {
      sum = sum_step time_of_service c.args.flights.now c.loop-flight.flight-index no_flight _ _ _ c.loop-flight-test.true c.time_of_service.ensures h.sum c.with-total.ensures.sum;
      count = length_step time_of_service c.args.flights.now c.loop-flight.flight-index no_flight _ _ _ c.loop-flight-test.true c.time_of_service.ensures h.count c.with-total.ensures.count;
      few = omega (arith, c.with-total.ensures.count, h.few, one_at_most (is_some c.time_of_service.result));
    }
