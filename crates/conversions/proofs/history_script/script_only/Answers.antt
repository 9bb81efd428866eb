use Rattle.std.proofs.Common.{◌≡◌, true, ap, sym, subst, ◌∙◌, arith, length}
use Rattle.std.specs.List.{list_all}
use Rattle.event_rules.specs.Laws.{is_in_range}
use Rattle.event_rules.specs.Legal.{history_rules, is_legal}
use Rattle.event_rules.proofs.LaneCount.{few_lanes}
use Rattle.conversions.specs.Arrivals.{Arrival}
use Rattle.conversions.proofs.HistoryLemmas.{arrivals_few, arrivals_ranged, lanes_many, lanes_answer, lanes_few}
use Rattle.conversions.proofs.history_script.script_only.Goals as goal

pub answers_of-requires : goal.answers_of-requires
answers_of-requires c = omega (arith, ap length c.lanes.ensures.same, few_lanes _ c.lanes.ensures.kept)

pub script_by-requires-clause-short : goal.script_by-requires-clause-short
script_by-requires-clause-short c = omega (arith, ap length (c.deref.ensures.value ∙ c.in_ok-all.ensures), arrivals_few c.events-events.result.now, c.events-events.ensures.short)

pub script_by-requires-clause-ruled : goal.script_by-requires-clause-ruled
script_by-requires-clause-ruled c =
    let legal : is_legal history_rules c.in_ok-config.config c.events-events.result.now ≡ true = rw (c.in_ok-config.ensures ∙ c.config.ensures, c.events-events.ensures.same) c.events-events.ensures.legal in
    subst (λ as'. list_all (λ (a : Arrival). is_in_range c.in_ok-config.config a.submission) as' ≡ true) (sym (c.deref.ensures.value ∙ c.in_ok-all.ensures)) (arrivals_ranged c.in_ok-config.config c.events-events.result.now legal)

pub script_by-requires-clause-lanes : goal.script_by-requires-clause-lanes
script_by-requires-clause-lanes c = lanes_many c.events-events.result.now (length c.lanes.result.now) c.in_ok-answers.answers.items c.in_ok-answers.ensures ∙ ap length c.lanes.ensures.same

pub script_by-requires-clause-answered : goal.script_by-requires-clause-answered
script_by-requires-clause-answered c =
    let legal : is_legal history_rules c.in_ok-config.config c.events-events.result.now ≡ true = rw (c.in_ok-config.ensures ∙ c.config.ensures, c.events-events.ensures.same) c.events-events.ensures.legal in
    lanes_answer c.in_ok-config.config c.events-events.result.now (length c.lanes.result.now) c.in_ok-answers.answers.items legal c.in_ok-answers.ensures

pub script_by-requires-clause-few : goal.script_by-requires-clause-few
script_by-requires-clause-few c =
    let legal : is_legal history_rules c.in_ok-config.config c.events-events.result.now ≡ true = rw (c.in_ok-config.ensures ∙ c.config.ensures, c.events-events.ensures.same) c.events-events.ensures.legal in
    lanes_few c.in_ok-config.config c.events-events.result.now (length c.lanes.result.now) c.in_ok-answers.answers.items legal c.in_ok-answers.ensures
