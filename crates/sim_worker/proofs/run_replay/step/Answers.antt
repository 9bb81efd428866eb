use Rattle.std.proofs.Common.{◌≡◌, ◌∙◌, ◌++◌, ◌∷◌, [], Bool, true, false, ap, sym, subst, refl}
use Rattle.sim_worker.specs.Walks.{AreOn}
use Rattle.sim_worker.proofs.PassLemmas.{in_time, opened_early, refused_event, still_of}
use Rattle.sim_worker.proofs.run_replay.step.Goals.{else-is_tick-via-then-is_tick+else-not-may_tick, else-is_tick-via-else-is_tick}
use Rattle.sim_worker.proofs.run_replay.step.Goals as goal

never : (b : Bool) → b ≡ false → b ≡ true → ⊥
never true h k = cc
never false h k = cc

pub returns-in-Ok-clause-step : goal.returns-in-Ok-clause-step
returns-in-Ok-clause-step c = λ _ of rising on.
    let s = c.args.script.now in
    let taken = c.in-Ok.ensures.0 in
    let events : c.take.new.self.events ≡ c.args.xpt.now.events ++ c.args.event.now ∷ [] = ap (λ t. t.events) taken.1 in (
      still_of s c.args.xpt.now c.take.new.self c.args.event.now taken of,
      events,
      subst (λ es. AreOn s c.args.logs.now es c.walk_all.new.walks) (sym events) (c.if-not-walk_all.ensures.on refl of rising on),
      in_time s.config s.limits c.args.xpt.now.events c.args.event.now (λ tick. elim c.else-is_tick.branch [
        | else-is_tick-via-then-is_tick+else-not-may_tick w ↦ w.may_tick.ensures.yes w.if-not-may_tick.false s of
        | else-is_tick-via-else-is_tick w ↦ absurd (never c.is_tick.result w.if-is_tick.false (c.is_tick.ensures ∙ tick))
      ]),
    )

pub returns-then-not-walk_all-clause-none : goal.returns-then-not-walk_all-clause-none
returns-then-not-walk_all-clause-none c = λ _ of rising on followed. c.if-not-walk_all.ensures.off refl of rising on followed.drivers

pub returns-then-not-may_tick-clause-none : goal.returns-then-not-may_tick-clause-none
returns-then-not-may_tick-clause-none c = λ _ of rising on followed.
    opened_early c.args.script.now c.args.logs.now c.args.xpt.now c.args.event.now (sym c.is_tick.ensures ∙ c.if-is_tick.true) of (c.may_tick.ensures.no c.if-not-may_tick.true c.args.script.now of) followed

pub returns-in-Err-clause-none : goal.returns-in-Err-clause-none
returns-in-Err-clause-none c = λ _ of rising on followed. refused_event c.args.script.now c.args.logs.now c.args.xpt.now c.args.event.now _ of c.in-Err.ensures.0 followed
