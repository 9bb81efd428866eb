use Rattle.std.proofs.Common.{◌<◌, ◌∙◌, ap, sym, subst, length}
use Rattle.cost_plan.specs.Words.{PotentialTable, instance_of_rows}
use Rattle.cost_plan.specs.WorkingSchedule.{schedule_of}
use Rattle.cost_plan.specs.Raising.{AllResidual}
use Rattle.cost_plan.proofs.SearchLemmas.{room, room-falls, AllResidual-raised, residual-from_came}
use Rattle.cost_plan.proofs.search.search.Goals as goal

pub returns-in-Some-2-clause-residual : goal.returns-in-Some-2-clause-residual
returns-in-Some-2-clause-residual c =
    let net = instance_of_rows c.args.net.now in
    let f = schedule_of c.args.working.now in
    let all = AllResidual-raised net f c.loop-node.potentials c.relax_all.new.potentials c.relax_all.result c.relax_all.ensures.raises c.loop-node.invariant.0 in
    residual-from_came net f c.relax_all.new.potentials _ all (rw c.in-Some-2.is at c.in_ok-place.ensures.came)

pub loop-node-smaller : goal.loop-node-smaller
loop-node-smaller c =
    let net = instance_of_rows c.args.net.now in
    let f = schedule_of c.args.working.now in
    let low = rw c.in_default-2.is at c.in_ok-place.ensures.ends in
    let falls = room-falls net f c.loop-node.potentials c.relax_all.new.potentials c.relax_all.result c.in-Some.node c.relax_all.ensures.raises c.in-Some.is low in
    subst (λ (l : PotentialTable). room l < room c.loop-node.potentials) (sym c.in_ok-place.ensures.same) falls

pub loop-node-preserved : goal.loop-node-preserved
loop-node-preserved c =
    let net = instance_of_rows c.args.net.now in
    let f = schedule_of c.args.working.now in
    let all = AllResidual-raised net f c.loop-node.potentials c.relax_all.new.potentials c.relax_all.result c.relax_all.ensures.raises c.loop-node.invariant.0 in (
      subst (AllResidual net f) (sym c.in_ok-place.ensures.same) all,
      (ap (λ (l : PotentialTable). length l.potentials) c.in_ok-place.ensures.same ∙ c.relax_all.ensures.raises.size ∙ c.loop-node.invariant.1.0, ap (λ (l : PotentialTable). l.most) c.in_ok-place.ensures.same ∙ c.relax_all.ensures.raises.most ∙ c.loop-node.invariant.1.1),
    )
