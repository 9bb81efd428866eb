use Rattle.std.proofs.Common.{ap, arith, refl, ◌∙◌}
use Rattle.xpt_state.specs.Words.{history_rules, Past}
use Rattle.event_rules.proofs.LegalLemmas.{none-legal}
use Rattle.xpt_state.proofs.HistoryLemmas.{next_is_legal_there, one_more_there, all_there, unrefused_push}
use Rattle.xpt_state.proofs.xpt.history_of.Goals as goal

pub unwrap-requires : goal.unwrap-requires
unwrap-requires c =
    let here = next_is_legal_there c.args.config _ c.args.events.now c.args.events.now _ c.loop-event.event-index c.event-item.result
    c.requires c.loop-event.invariant.config refl c.loop-event.invariant.events c.loop-event-test.true c.event-item.is in
    unrefused_push _ c.push.result (none-legal history_rules c.loop-event.history.config c.loop-event.history.events c.event-item.result here) c.push.ensures.answer

pub loop-event-preserved : goal.loop-event-preserved
loop-event-preserved c =
    let taken = rw c.unwrap.ensures at c.push.ensures.ok in
    record {
      config = ap (λ (h : Past). h.config) taken ∙ c.loop-event.invariant.config;
      events = ap (λ (h : Past). h.events) taken
          ∙ one_more_there c.args.events.now _ c.loop-event.event-index c.event-item.result c.loop-event.invariant.events c.loop-event-test.true c.event-item.is;
    }

pub returns : goal.returns
returns c =
    all_there c.args.config c.args.events.now c.args.events.now c.loop-event.history c.loop-event.event-index c.loop-event.invariant.config c.loop-event.invariant.events
    (omega (arith, c.loop-event-test.false)) refl
