use Rattle.std.proofs.Common.{◌∙◌, arith, sym, ap, Some, ltb-true}
use Rattle.sim_worker.proofs.CallLemmas.{calls_of-pause}
use Rattle.sim_worker.proofs.RunListFacts.{get_is}
use Rattle.sim_worker.proofs.DriverLemmas.{has_done-pause}
use Rattle.sim_worker.proofs.able_actors.behind_pauses.Goals as goal

pub loop-round-preserved : goal.loop-round-preserved
loop-round-preserved c =
    let there = get_is c.args.steps.now c.loop-round.done c.in-Some-Pause.field-0.now (ltb-true _ _ (sym c.in-Some-Pause.ensures.lookup.0)) c.in-Some-Pause.ensures.lookup.1 ∙ ap (λ v. Some v) c.in-Some-Pause.field-0-is in
    record {
      done = λ d events now h. has_done-pause c.args.steps.now d events c.loop-round.done c.in-Some-Pause.round there (omega (arith, now, c.if-now-round.false)) (c.loop-round.invariant.done d events now h);
      calls = calls_of-pause c.args.steps.now c.loop-round.done c.in-Some-Pause.round there ∙ c.loop-round.invariant.calls;
    }
