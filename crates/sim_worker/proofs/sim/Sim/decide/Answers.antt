use Rattle.std.proofs.Common.{◌≡◌, ◌∙◌, sym, ap, subst, length, Some, true, not, ◌||◌}
use Rattle.sim_worker.specs.Words.{Case, Transport, next_case, is_some_and, refused}
use Rattle.sim_worker.specs.Runs.{is_in_time, is_submit_by}
use Rattle.sim_worker.proofs.LaneFacts.{is_lane_event}
use Rattle.sim_worker.specs.Endings.{IsDrained, is_call}
use Rattle.sim_worker.proofs.DrainLemmas.{left_to_decide}
use Rattle.sim_worker.specs.Work.{Work, is_able}
use Rattle.sim_worker.specs.Held.{is_held_up}
use Rattle.sim_worker.specs.declared.actor.Actor.TheVariants as actors
use Rattle.sim_worker.proofs.CaseLemmas.{decision_held, free_before}
use Rattle.sim_worker.proofs.FullLemmas.{full_at_limit, full_is, says_full}
use Rattle.sim_worker.proofs.LeftLemmas.{left-event, left-recovery}
use Rattle.sim_worker.proofs.StepLemmas.{other_step, mark_step}
use Rattle.sim_worker.proofs.TurnLemmas.{at_limit, decision_apart, decision_no_call, decision_no_submit, decision_in_time, room_for}
use Rattle.sim_worker.proofs.sim.Sim.decide.Goals as goal

pub returns-then-is_full-clause-ending : goal.returns-then-is_full-clause-ending
returns-then-is_full-clause-ending c =
    let is : next_case c.self.inside.xpt.events ≡ Some c.in-Some.case = sym c.next_case.ensures ∙ c.in-Some.is in (
      (λ drained. left_to_decide _ c.in-Some.case c.self.invariant is (subst (λ (t : Transport). IsDrained c.self.inside.script.now t.events) c.in-Err.ensures.1 drained)),
      ap (λ t. length t.events) c.in-Err.ensures.1
          ∙ at_limit _ c.self.invariant (full_at_limit c.self.inside.xpt.rules c.self.inside.xpt.config c.self.inside.xpt.events c.decision.result
          (ap says_full c.in-Err.ensures.0 ∙ full_is c.in-Err.why ∙ sym c.is_full.ensures ∙ c.if-is_full.true)),
    )

pub invariant_of-self-in-Err : goal.invariant_of-self-in-Err
invariant_of-self-in-Err c = rw (c.in-Err.ensures.1) (mark_step c.self.inside.script.now c.self.inside.xpt c.self.inside.drivers.items c.self.inside.lanes.items c.self.inside.refused true c.self.invariant)

pub invariant_of-self-in_default-take : goal.invariant_of-self-in_default-take
invariant_of-self-in_default-take c =
    let case = c.in-Some.case in
    let is = c.decision.ensures in
    other_step c.self.inside.script.now c.self.inside.xpt c.take.new.self c.self.inside.drivers.items c.self.inside.lanes.items c.self.inside.refused c.self.inside.refused c.decision.result
    (ap is_lane_event is ∙ decision_apart case) (ap is_call is ∙ decision_no_call case) (λ d. ap (is_submit_by d) is ∙ decision_no_submit case d)
    (ap (λ e. is_in_time c.self.inside.script.now.config c.self.inside.script.now.limits (c.self.inside.xpt.events, e)) is ∙ decision_in_time c.self.inside.script.now.config c.self.inside.script.now.limits c.self.inside.xpt.events case)
    c.in_default-take.ensures.0 c.self.invariant

pub returns-else-is_full-clause-less : goal.returns-else-is_full-clause-less
returns-else-is_full-clause-less c =
    let case = c.in-Some.case in
    let is : next_case c.self.inside.xpt.events ≡ Some case = sym c.next_case.ensures ∙ c.in-Some.is in
    let held = decision_held c.self.inside.xpt case c.in-Err.why c.self.invariant.legal is (ap (refused c.self.inside.xpt) (sym c.decision.ensures) ∙ c.in-Err.ensures.0) (sym c.is_full.ensures ∙ c.if-is_full.false) in
    let able : (not c.self.inside.refused || not (is_held_up c.self.inside.xpt case)) ≡ true =
    ap (is_some_and (λ (x : Case). not c.self.inside.refused || not (is_held_up c.self.inside.xpt x))) (sym is) ∙ ap (λ (w : Work). is_able w actors.Recovery) c.self.view_is ∙ c.requires in
    left-recovery c.self.inside.script.now c.self.inside.xpt c.take.new.self c.self.inside.drivers.items c.self.inside.lanes.items c.self.inside.refused c.args.self.now c.self.view_is c.in-Err.ensures.1
    (free_before c.self.inside.refused (is_held_up c.self.inside.xpt case) held able)

pub returns-in_default-take-clause-less : goal.returns-in_default-take-clause-less
returns-in_default-take-clause-less c =
    left-event c.self.inside.script.now c.self.inside.xpt c.take.new.self c.self.inside.drivers.items c.self.inside.drivers.items c.self.inside.lanes.items c.self.inside.lanes.items c.self.inside.refused c.self.inside.refused c.decision.result c.args.self.now c.self.view_is
    c.in_default-take.ensures.0 (room_for c.self.inside.xpt c.decision.result c.in_default-take.ensures.0.0) c.self.invariant.eight
