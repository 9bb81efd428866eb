use Rattle.sim_worker.proofs.RestLemmas.{opens}
use Rattle.sim_worker.proofs.TickLemmas.{case_left, heads_left}
use Rattle.sim_worker.proofs.run_replay.may_tick.Goals as goal

pub returns-then-look-eq0 : goal.returns-then-look-eq0
returns-then-look-eq0 c = record {
  yes = λ rests s of. opens s c.args.xpt.now c.look.result of c.look.ensures c.if-look-eq0.true (c.may_recovery_rest.ensures.yes rests s of);
  no = λ busy s of sofar may. case_left s c.args.xpt.now c.may_recovery_rest.result of (λ _ rest. c.may_recovery_rest.ensures.no busy s of sofar rest) busy may;
}

pub returns-else-look-eq0-clause-no : goal.returns-else-look-eq0-clause-no
returns-else-look-eq0-clause-no c = λ _ s of sofar may. heads_left s c.args.xpt.now c.look.result of c.look.ensures c.if-look-eq0.false may
