use Rattle.std.proofs.Common.{◌≡◌, ◌∙◌, ◌+◌, ◌++◌, ◌∷◌, [], take, true, ap, sym, subst, refl, arith, inl}
use Rattle.sim_worker.specs.Runs.{is_in_time, are_ticks_in_time}
use Rattle.sim_worker.specs.Walks.{AreOn, IsFollowedTo}
use Rattle.sim_worker.proofs.RunListFacts.{take_whole}
use Rattle.sim_worker.proofs.PassLemmas.{followed_to, one_event_more, ticks-push}
use Rattle.sim_worker.proofs.run_replay.pass.Goals as goal

pub loop-place-preserved : goal.loop-place-preserved
loop-place-preserved c =
    let s = c.args.script.now in
    let inv = c.loop-place.invariant in
    let i = c.loop-place.place in
    let e = c.index-events-place.result in
    let more : take (i + 1) c.args.events.now ≡ take i c.args.events.now ++ e ∷ [] = one_event_more c.args.events.now i e c.loop-place-test.true c.index-events-place.is in
    let did = c.if-not-step.ensures.step refl inv.of c.requires.rising (subst (λ es. AreOn s c.args.logs.now es c.loop-place.walks) (sym inv.events) inv.on) in
    let events : c.step.new.xpt.events ≡ take (i + 1) c.args.events.now = did.1 ∙ ap (λ es. es ++ e ∷ []) inv.events ∙ sym more in
    let here : is_in_time s.config s.limits (take i c.args.events.now, e) ≡ true = ap (λ es. is_in_time s.config s.limits (es, e)) (sym inv.events) ∙ did.3 in
    record {
      same = c.if-not-step.ensures.len ∙ inv.same;
      of = did.0;
      events = events;
      on = subst (λ es. AreOn s c.args.logs.now es c.step.new.walks) events did.2;
      ticks = ap (are_ticks_in_time s.config s.limits) more ∙ ticks-push s.config s.limits (take i c.args.events.now) e here inv.ticks;
    }

pub returns-then-not-step-clause-failed : goal.returns-then-not-step-clause-failed
returns-then-not-step-clause-failed c =
    let s = c.args.script.now in
    let inv = c.loop-place.invariant in
    let i = c.loop-place.place in
    let e = c.index-events-place.result in
    let more : take (i + 1) c.args.events.now ≡ take i c.args.events.now ++ e ∷ [] = one_event_more c.args.events.now i e c.loop-place-test.true c.index-events-place.is in
    let here : c.loop-place.xpt.events ++ e ∷ [] ≡ take (i + 1) c.args.events.now = ap (λ es. es ++ e ∷ []) inv.events ∙ sym more in
    inl (record {
      there = c.loop-place-test.true;
      before = followed_to s (take i c.args.events.now) c.args.logs.now c.loop-place.walks c.loop-place.xpt (inv.same ∙ c.requires.same) (inv.of, inv.events, inv.on, inv.ticks) c.events-events.ensures.legal;
      not_here = λ followed. c.if-not-step.ensures.none refl inv.of c.requires.rising (subst (λ es. AreOn s c.args.logs.now es c.loop-place.walks) (sym inv.events) inv.on) (subst (λ es. IsFollowedTo s es c.args.logs.now) (sym here) followed);
    })

pub returns-clause-passed : goal.returns-clause-passed
returns-clause-passed c =
    let s = c.args.script.now in
    let inv = c.loop-place.invariant in
    let whole : take c.loop-place.place c.args.events.now ≡ c.args.events.now = take_whole c.args.events.now c.loop-place.place (omega (arith, c.loop-place-test.false)) in (
      inv.of,
      inv.events ∙ whole,
      subst (λ es. AreOn s c.args.logs.now es c.loop-place.walks) whole inv.on,
      ap (are_ticks_in_time s.config s.limits) (sym whole) ∙ inv.ticks,
    )
