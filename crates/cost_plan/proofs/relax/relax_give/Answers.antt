use Rattle.std.proofs.Common.{arith, inr}
use Rattle.round_net.specs.Rows.{instance_of_rows}
use Rattle.cost_plan.specs.Cells.{node_count}
use Rattle.cost_plan.specs.WorkingSchedule.{schedule_of}
use Rattle.cost_plan.specs.Residual.{IsResidual}
use Rattle.cost_plan.proofs.RaisingLemmas.{Raises-by, IsSettled-by}
use Rattle.cost_plan.proofs.relax.relax_give.Goals as goal

pub relax-requires-clause-up : goal.relax-requires-clause-up
relax-requires-clause-up c = rw c.removing.ensures.up (omega arith)

pub returns-clause-raises : goal.returns-clause-raises
returns-clause-raises c =
    let net = instance_of_rows c.args.net.now in
    let residual : IsResidual net (schedule_of c.args.working.now) c.removing.result = inr (inr (record { resource = c.args.resource; round = c.args.round; is = c.removing.ensures.same; within = c.requires.resource; first = c.requires.first; last = c.requires.last; some = omega (arith, c.load.ensures) })) in
    Raises-by net (schedule_of c.args.working.now) c.args.potentials.now c.relax.new.self c.relax.result c.removing.result (node_count net) net.max_price c.relax.ensures.potentials c.relax.ensures.node c.requires.size c.requires.most c.removing.ensures.tail c.removing.ensures.head (rw c.removing.ensures.up (omega arith)) residual

pub returns-clause-settled : goal.returns-clause-settled
returns-clause-settled c = λ none some. IsSettled-by c.args.potentials.now c.relax.result c.removing.result _ c.relax.ensures.node c.removing.ensures.same none
