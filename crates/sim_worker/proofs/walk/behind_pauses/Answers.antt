use Rattle.std.proofs.Common.{◌∙◌, arith, sym, ap, Some, ltb-true, slice_get}
use Rattle.sim_worker.proofs.RunListFacts.{get_is}
use Rattle.sim_worker.proofs.WalkLemmas.{stands_behind_pause}
use Rattle.sim_worker.proofs.walk.behind_pauses.Goals as goal

pub loop-round-preserved : goal.loop-round-preserved
loop-round-preserved c =
    let here = get_is c.args.rows.now c.loop-round.row c.in-Some-Pause.field-0.now (ltb-true _ _ (sym c.in-Some-Pause.ensures.lookup.0)) c.in-Some-Pause.ensures.lookup.1 ∙ ap (λ v. Some v) c.in-Some-Pause.field-0-is in
    record {
      stands = λ events h. stands_behind_pause _ _ _ _ c.in-Some-Pause.round here (omega (arith, c.if-now-round.false)) (c.loop-round.invariant.stands events h);
      same = λ behind. absurd (let at = c.loop-round.invariant.same behind in let later = behind c.in-Some-Pause.round (ap (slice_get c.args.rows.now) (sym at) ∙ here) in omega (arith, later, c.if-now-round.false));
    }
