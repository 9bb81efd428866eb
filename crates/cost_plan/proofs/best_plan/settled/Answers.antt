use Rattle.std.proofs.Common.{List, drop, sym, subst, All}
use Rattle.cost_plan.specs.Words.{Arc, instance_of_rows}
use Rattle.cost_plan.specs.WorkingSchedule.{schedule_of}
use Rattle.cost_plan.specs.Residual.{IsResidual}
use Rattle.cost_plan.proofs.best_plan.settled.Goals as goal

pub improve-requires-clause-residual : goal.improve-requires-clause-residual
improve-requires-clause-residual c =
    let net = instance_of_rows c.args.net.now in
    let found = rw c.in-Some.is at c.in_ok-place.ensures.residual in
    subst (λ (path : List Arc). All (IsResidual net (schedule_of c.loop-path.start.working)) (drop c.in-Some.place path)) (sym c.deref.ensures.value) found
