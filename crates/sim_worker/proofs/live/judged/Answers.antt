use Rattle.sim_worker.proofs.FaultLemmas.{judged_fault, ungathered_fault}
use Rattle.sim_worker.proofs.live.judged.Goals as goal

pub returns-in-Err-clause-fault : goal.returns-in-Err-clause-fault
returns-in-Err-clause-fault g c = rw (c.live_fault.ensures) (ungathered_fault c.args.script.now _ c.in-Err.fault c.in-Err.ensures)

pub returns-in-Ok-judge-clause-run : goal.returns-in-Ok-judge-clause-run
returns-in-Ok-judge-clause-run g c = rw (c.deref-2.ensures.value, c.deref-3.ensures.value) at c.in-Ok-judge.ensures.run

pub returns-clause-fault : goal.returns-clause-fault
returns-clause-fault g c =
    judged_fault c.args.script.now c.in-Ok.history _ _ c.in-Err-judge.why c.in-Ok.ensures.0 c.in-Ok.ensures.1 (rw (c.deref-2.ensures.value, c.in_ok-logs.ensures, c.deref.ensures.value) at c.in-Err-judge.ensures.fault)
