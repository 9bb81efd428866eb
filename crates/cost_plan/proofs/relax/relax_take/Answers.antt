use Rattle.std.proofs.Common.{arith, inl, inr}
use Rattle.round_net.specs.Rows.{instance_of_rows}
use Rattle.cost_plan.specs.Cells.{node_count}
use Rattle.cost_plan.specs.WorkingSchedule.{schedule_of}
use Rattle.cost_plan.specs.Residual.{IsResidual}
use Rattle.cost_plan.proofs.RaisingLemmas.{Raises-by, IsSettled-by}
use Rattle.cost_plan.proofs.relax.relax_take.Goals as goal

pub returns-then-load-cap-clause-settled : goal.returns-then-load-cap-clause-settled
returns-then-load-cap-clause-settled c = λ none room. absurd (omega (arith, c.load.ensures, c.cap.ensures.same, c.if-load-cap.true))

pub relax-requires-clause-up : goal.relax-requires-clause-up
relax-requires-clause-up c = rw c.adding.ensures.up (omega arith)

pub returns-clause-raises : goal.returns-clause-raises
returns-clause-raises c =
    let net = instance_of_rows c.args.net.now in
    let residual : IsResidual net (schedule_of c.args.working.now) c.adding.result = inr (inl (record { resource = c.args.resource; round = c.args.round; is = c.adding.ensures.same; within = c.requires.resource; first = c.requires.first; last = c.requires.last; room = omega (arith, c.load.ensures, c.cap.ensures.same, c.if-load-cap.false) })) in
    Raises-by net (schedule_of c.args.working.now) c.args.potentials.now c.relax.new.self c.relax.result c.adding.result (node_count net) net.max_price c.relax.ensures.potentials c.relax.ensures.node c.requires.size c.requires.most c.adding.ensures.tail c.adding.ensures.head (rw c.adding.ensures.up (omega arith)) residual

pub returns-clause-settled : goal.returns-clause-settled
returns-clause-settled c = λ none room. IsSettled-by c.args.potentials.now c.relax.result c.adding.result _ c.relax.ensures.node c.adding.ensures.same none
