use Rattle.std.proofs.Common.{◌≡◌, ◌∙◌, sym, ◌++◌, ◌∷◌, [], List, Option, None, Some, length, ap, true, false, Bool, IfSome, slice_get}
use Rattle.sim_worker.specs.Words.{is_tick, Event, Scenario, Step, Receipt}
use Rattle.sim_worker.specs.Logs.{IsDriverLog, FollowsRows, LetsRest}
use Rattle.sim_worker.specs.Walks.{IsOn, IsWalk, Walk}
use Rattle.sim_worker.proofs.UnfitLemmas.{no_round}
use Rattle.sim_worker.proofs.WalkLemmas.{on_later}
use Rattle.sim_worker.proofs.RunListFacts.{none_maps}
use Rattle.sim_worker.proofs.walk.Walk.behind.Goals.{else-is_tick-via-then-is_tick+else-not-rests, else-is_tick-via-else-is_tick}
use Rattle.sim_worker.proofs.walk.Walk.behind.Goals as goal

no : (b : Bool) → b ≡ false → b ≡ true → ⊥
no true h k = cc
no false h k = cc

on_with : (s : Scenario) (steps : List Step) (log : List Receipt) (before : List Event) (e : Event) (here : Walk) (o : Option Walk) → IsDriverLog s steps log before → IsWalk s steps log before here → (is_tick e ≡ true → LetsRest s log before (slice_get steps here.row)) →
    IfSome o (λ w. IsWalk s steps log (before ++ e ∷ []) w × FollowsRows steps log (before ++ e ∷ [])) → IfSome o (λ w. IsOn s steps log (before ++ e ∷ []) w)
on_with s steps log before e here None h w rests with = tt
on_with s steps log before e here (Some x) h w rests with = record { log = on_later s steps log before e here h w rests with.1; walk = with.0 }

pub returns-clause-fits : goal.returns-clause-fits
returns-clause-fits c = λ s of rising h.
    let here = c.settled-here.ensures s c.args.log.now of h.walk in
    on_with s c.args.rows.now c.args.log.now c.args.xpt.now.events c.args.event.now c.settled-here.result c.with.result h.log here.walk
    (λ tick. elim c.else-is_tick.branch [
      | else-is_tick-via-then-is_tick+else-not-rests w ↦ w.rests.ensures.yes w.if-not-rests.false s c.args.log.now here
      | else-is_tick-via-else-is_tick w ↦ absurd (no c.is_tick.result w.if-is_tick.false (c.is_tick.ensures ∙ tick))
    ])
    (c.with.ensures.fits s c.args.xpt.now.events (ap length c.events.ensures.same) rising here h.log.follows)

pub returns-clause-none : goal.returns-clause-none
returns-clause-none c = none_maps c.with.result (λ other s of rising h its. other s c.args.xpt.now.events (ap length c.events.ensures.same) (c.settled-here.ensures s c.args.log.now of h.walk) its.follows) c.with.ensures.none

pub returns-then-not-rests-clause-none : goal.returns-then-not-rests-clause-none
returns-then-not-rests-clause-none c = λ s of rising h its.
    let here = c.settled-here.ensures s c.args.log.now of h.walk in
    no_round s c.args.rows.now c.args.log.now c.args.xpt.now.events c.args.event.now c.settled-here.result (sym c.is_tick.ensures ∙ c.if-is_tick.true) here (c.rests.ensures.no c.if-not-rests.true s c.args.log.now here) its
