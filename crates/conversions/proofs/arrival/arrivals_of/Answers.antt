use Rattle.std.proofs.Common.{refl, arith}
use Rattle.event_rules.specs.Counts.{round}
use Rattle.event_rules.specs.Event.{is_tick}
use Rattle.conversions.specs.Arrivals.{arrivals}
use Rattle.conversions.proofs.ArrivalLemmas.{arrivals_more, round_more, one_later}
use Rattle.conversions.proofs.arrival.arrivals_of.Goals as goal

pub loop-event-init : goal.loop-event-init
unfolding arrivals round
loop-event-init c = record { found = c.new-found.ensures.items; round = refl; small = omega arith }

pub loop-event-preserved : goal.loop-event-preserved
loop-event-preserved c =
    let es = c.args.events.now in
    let i = c.loop-event.event-index in
    let e = c.event-item.result in
    record {
      found = arrivals_more es i c.loop-event.round e c.loop-event.found.items c.add.new.found.items c.arrival_in.result c.loop-event-test.true c.event-item.is c.loop-event.invariant.found c.loop-event.invariant.round c.arrival_in.ensures c.in_ok-add.ensures;
      round = round_more es i c.loop-event.round c.round_after-round.result e c.loop-event-test.true c.event-item.is c.loop-event.invariant.round c.round_after-round.ensures;
      small = one_later (is_tick e) c.loop-event.round c.round_after-round.result i c.loop-event.invariant.small c.round_after-round.ensures;
    }
