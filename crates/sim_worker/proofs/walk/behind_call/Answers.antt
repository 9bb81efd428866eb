use Rattle.std.proofs.Common.{◌∙◌, ap, sym, refl, Some, ltb-true}
use Rattle.event_rules.specs.declared.event.Event.{Event}
use Rattle.trace_file.specs.declared.step.Step.TheVariants as steps
use Rattle.sim_worker.proofs.RunListFacts.{get_is}
use Rattle.sim_worker.proofs.walk.behind_call.Goals as goal

pub returns-in-Some-Act-clause-some : goal.returns-in-Some-Act-clause-some
returns-in-Some-Act-clause-some c = (
  get_is c.args.rows.now c.args.row c.in-Some-Act.field-0.now (ltb-true _ _ (sym c.in-Some-Act.ensures.lookup.0)) c.in-Some-Act.ensures.lookup.1
      ∙ ap (λ v. Some v) c.in-Some-Act.field-0-is
      ∙ ap (λ (e : Event). Some (steps.Act e)) (c.are_same.ensures.0 c.if-are_same.true),
  refl,
)
