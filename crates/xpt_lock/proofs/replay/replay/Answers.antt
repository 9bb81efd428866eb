use Rattle.std.proofs.Common.{◌≡◌, true, length, ap, arith, sym, subst, take, length-take, ◌∙◌}
use Rattle.event_rules.specs.declared.event.Event.{Event}
use Rattle.event_rules.specs.Legal.{history_rules, is_legal}
use Rattle.event_rules.proofs.WithinLemmas.{short-legal}
use Rattle.xpt_lock.proofs.ReplayLemmas.{takes_next, next_place, next_receipt, few_receipts}
use Rattle.xpt_lock.proofs.replay.replay.Goals as goal

pub unwrap-reply-requires : goal.unwrap-reply-requires
unwrap-reply-requires c =
    let items = c.deref-event-items.ensures.value ∙ c.into_parts-config.ensures.events in
    let legal : is_legal history_rules c.args.xpt.config c.deref-event-items.result.now ≡ true = rw items c.into_parts-config.ensures.legal in
    takes_next _ _ _ _ _ _ c.take.result legal c.loop-event.invariant.transport c.loop-event-test.true c.event-item.is c.take.ensures

pub loop-event-preserved : goal.loop-event-preserved
loop-event-preserved c =
    let taken = rw c.unwrap-reply.ensures at c.take.ensures in
    let put = rw c.in_ok-push.was at c.push.ensures.items in
    record {
      transport = next_place _ _ _ _ _ _ c.unwrap-reply.result c.loop-event.invariant.transport c.loop-event-test.true c.event-item.is taken.0.1;
      receipts =
          next_receipt _ _ _ c.loop-event.again c.event-item.result c.unwrap-reply.result _ _ _ c.loop-event.invariant.transport c.loop-event-test.true c.event-item.is (ap length c.events.ensures.same) taken.1
          c.loop-event.invariant.receipts put;
    }

pub returns-clause-few : goal.returns-clause-few
returns-clause-few c =
    let items = c.deref-event-items.ensures.value ∙ c.into_parts-config.ensures.events in
    few_receipts _ c.args.xpt.events _ _ _ _ c.loop-event.invariant.receipts items (rw items (short-legal history_rules c.args.xpt.config c.args.xpt.events c.into_parts-config.ensures.legal))
