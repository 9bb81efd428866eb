use Rattle.xpt_carry.proofs.ReplayLemmas.{taken_none, taken_more, taken_all, left_all, left_more, left_none, refused_here}
use Rattle.xpt_carry.proofs.taking.take_all.Goals as goal

pub loop-event-init : goal.loop-event-init
loop-event-init c = record {
  taken = taken_none c.args.xpt.now c.requires;
  left = left_all c.args.xpt.now c.args.events.now;
}

pub returns-in-Err : goal.returns-in-Err
returns-in-Err c =
    refused_here c.args.xpt.now c.loop-event.xpt c.args.events.now c.loop-event.event-index c.event-item.result _
    c.loop-event.invariant.taken c.loop-event.invariant.left c.loop-event-test.true c.event-item.is c.in-Err.ensures.0

pub loop-event-preserved : goal.loop-event-preserved
loop-event-preserved c = record {
  taken = taken_more c.args.xpt.now c.loop-event.xpt c.take.new.self c.args.events.now c.loop-event.event-index c.event-item.result
      c.loop-event.invariant.taken c.loop-event-test.true c.event-item.is c.in_default.ensures.0.1;
  left = left_more c.args.xpt.now c.loop-event.xpt c.args.events.now c.loop-event.event-index c.event-item.result
      c.loop-event.invariant.taken c.loop-event.invariant.left c.loop-event-test.true c.event-item.is c.in_default.ensures.0.0;
}

pub returns : goal.returns
returns c = (
  left_none c.args.xpt.now c.args.events.now c.loop-event.event-index c.loop-event.invariant.left c.loop-event-test.false,
  taken_all c.args.xpt.now c.loop-event.xpt c.args.events.now c.loop-event.event-index c.loop-event.invariant.taken c.loop-event-test.false,
)
