use Rattle.std.proofs.Common.{ℕ, ◌≡◌, ◌<◌, ◌-◌, ap, arith, length, get_or, set, subst, sym}
use Rattle.std.proofs.lemmas.List.{get_or_read}
use Rattle.cost_plan.specs.Words.{rows, instance_of_rows, live_of_rows}
use Rattle.cost_plan.proofs.LoadLemmas.{IsRemoving, IsRemoving-begun, IsRemoving-some, IsRemoving-step, IsRemoving-ended}
use Rattle.cost_plan.proofs.NodeLemmas.{cell-in}
use Rattle.cost_plan.proofs.working_schedule.remove.Goals as goal

pub loop-resource-init : goal.loop-resource-init
loop-resource-init c =
    let net = instance_of_rows c.args.net.now in
    subst (IsRemoving net c.args.stay c.args.round c.args.loads.now.items c.args.loads.now.items) (sym c.device-resource.ensures.same)
    (IsRemoving-begun net (live_of_rows c.args.net.now) c.args.stay c.args.round c.args.loads.now.items c.rows-end.ensures.sound c.requires.stay)

pub index_mut-requires : goal.index_mut-requires
index_mut-requires c =
    let net = instance_of_rows c.args.net.now in
    omega (arith, c.node-cell.ensures.same, cell-in net c.loop-resource.resource c.args.round (omega (arith, c.rows-end.ensures.same)) c.requires.round, c.loop-resource.invariant.size, c.requires.size)

pub overflow_sub-index_mut : goal.overflow_sub-index_mut
overflow_sub-index_mut c =
    let net = instance_of_rows c.args.net.now in
    let loads = c.loop-resource.loads.items in
    let resource_in : c.loop-resource.resource < rows net = omega (arith, c.rows-end.ensures.same) in
    let inside : c.node-cell.result < length loads = omega (arith, c.node-cell.ensures.same, cell-in net c.loop-resource.resource c.args.round resource_in c.requires.round, c.loop-resource.invariant.size, c.requires.size) in
    let x : c.index_mut.result.now ≡ get_or loads c.node-cell.result 0 = get_or_read loads _ _ inside c.index_mut.ensures.value 0 in
    let place = ap (λ (k : ℕ). get_or loads k 0) c.node-cell.ensures.same in
    let some = IsRemoving-some net c.args.stay c.args.round c.args.loads.now.items loads c.loop-resource.resource resource_in c.requires.round c.requires.some c.loop-resource.invariant in
    omega arith

pub loop-resource-preserved : goal.loop-resource-preserved
loop-resource-preserved c =
    let net = instance_of_rows c.args.net.now in
    let old = c.args.loads.now.items in
    let loads = c.loop-resource.loads.items in
    let resource_in : c.loop-resource.resource < rows net = omega (arith, c.rows-end.ensures.same) in
    let inside : c.node-cell.result < length loads = omega (arith, c.node-cell.ensures.same, cell-in net c.loop-resource.resource c.args.round resource_in c.requires.round, c.loop-resource.invariant.size, c.requires.size) in
    let x : c.index_mut.result.now ≡ get_or loads c.node-cell.result 0 = get_or_read loads _ _ inside c.index_mut.ensures.value 0 in
    let place = ap (λ (k : ℕ). get_or loads k 0) c.node-cell.ensures.same in
    let some = IsRemoving-some net c.args.stay c.args.round old loads c.loop-resource.resource resource_in c.requires.round c.requires.some c.loop-resource.invariant in
    subst (IsRemoving net c.args.stay c.args.round old (set loads c.node-cell.result (c.index_mut.result.now - 1))) (sym c.resource_above-resource.ensures.same)
    (IsRemoving-step net c.args.stay c.args.round old loads c.loop-resource.resource c.node-cell.result c.index_mut.result.now resource_in c.requires.round inside c.node-cell.ensures.same x (omega arith) c.loop-resource.invariant)

pub returns-clause-counts : goal.returns-clause-counts
returns-clause-counts c =
    let net = instance_of_rows c.args.net.now in
    IsRemoving-ended net c.args.stay c.args.round c.args.loads.now.items c.loop-resource.loads.items c.loop-resource.resource (omega (arith, c.rows-end.ensures.same)) c.loop-resource.invariant
