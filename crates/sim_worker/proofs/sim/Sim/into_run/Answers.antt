use Rattle.std.proofs.Common.{sym, subst}
use Rattle.sim_worker.specs.Endings.{IsEnding}
use Rattle.sim_worker.specs.SimRuns.{IsSimRun}
use Rattle.sim_worker.specs.Work.{Work}
use Rattle.sim_worker.proofs.RunLemmas.{run_is}
use Rattle.sim_worker.proofs.sim.Sim.into_run.Goals as goal

pub returns-clause-run : goal.returns-clause-run
returns-clause-run c =
    let ending = subst (λ (w : Work). IsEnding w.script w.transport.events c.args.ending) (sym c.self.view_is) c.requires in
    subst (λ (w : Work). IsSimRun w.script c.in_ok-into_history.field-0 c.args.ending) c.self.view_is (run_is _ c.in_ok-into_history.field-0 c.args.ending c.self.invariant c.in_ok-into_history.ensures ending)
