use Rattle.std.proofs.Common.{◌≡◌, ◌∙◌, sym, refl, ap, true, false, Bool, not, Some}
use Rattle.event_rules.specs.declared.event.Event.{Event}
use Rattle.trace_file.specs.declared.step.Step.TheVariants as steps
use Rattle.sim_worker.proofs.RunListFacts.{if_none}
use Rattle.sim_worker.proofs.UnfitLemmas.{other_call}
use Rattle.sim_worker.proofs.WalkLemmas.{walk_beside, walk_made}
use Rattle.sim_worker.proofs.walk.Walk.with.Goals as goal

no_tick : (b : Bool) → not b ≡ true → b ≡ false
no_tick true h = absurd (cc)
no_tick false h = refl

still : (b : Bool) → b ≡ false → not b ≡ true
still true h = absurd (cc)
still false h = refl

no : (b : Bool) → b ≡ false → b ≡ true → ⊥
no true h k = cc
no false h k = cc

pub returns-then-self-clause-fits : goal.returns-then-self-clause-fits
returns-then-self-clause-fits c = λ s before place rising h follows.
    walk_beside s c.args.rows.now c.args.log.now before c.args.event.now c.args.self (not c.is_tick.result) rising (λ r at is. c.in_default.ensures.none r at (is ∙ sym place)) (λ is. (c.if-self.true, sym c.is_tick.ensures ∙ no_tick c.is_tick.result is)) (λ _ quiet. still c.is_tick.result (c.is_tick.ensures ∙ quiet)) h follows

pub returns-else-self-clause-fits : goal.returns-else-self-clause-fits
returns-else-self-clause-fits c = λ s before place rising h follows.
    walk_beside s c.args.rows.now c.args.log.now before c.args.event.now c.args.self c.args.self.refused rising (λ r at is. c.in_default.ensures.none r at (is ∙ sym place)) (λ is. absurd (no c.args.self.refused c.if-self.false is)) (λ is _. is) h follows

pub returns-in_err-behind_call-clause-none : goal.returns-in_err-behind_call-clause-none
returns-in_err-behind_call-clause-none c = if_none c.from_residual.result (λ s before place h follows.
    let found = c.in-Some.ensures.some in
    other_call s c.args.rows.now c.args.log.now before c.args.event.now c.args.self found.0 h found.1 (found.2 ∙ place) (λ row. c.in_err-behind_call.ensures.none (row ∙ ap (λ (e : Event). Some (steps.Act e)) found.3)) follows)

pub returns-clause-fits : goal.returns-clause-fits
returns-clause-fits c = λ s before place rising h follows.
    walk_made s c.args.rows.now c.args.log.now before c.args.event.now c.in-Some.due c.args.self c.args.place _ _ rising place c.in-Some.ensures.some c.in_ok-behind_call.ensures.some h.walk follows
