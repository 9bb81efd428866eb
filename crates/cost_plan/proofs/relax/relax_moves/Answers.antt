use Rattle.std.proofs.Common.{◌≡◌, ◌+◌, ◌*◌, ◌<◌, ◌≤◌, ◌∙◌, length, ap, arith, inl}
use Rattle.std.proofs.lemmas.Nat.{mul-le}
use Rattle.cost_plan.specs.Words.{MAX_NET_ROUNDS, MAX_WEIGHT, Arc, instance_of_rows, live_of_rows}
use Rattle.cost_plan.specs.Cells.{node_count}
use Rattle.cost_plan.specs.WorkingSchedule.{schedule_of}
use Rattle.cost_plan.specs.Residual.{IsResidual, move_arc}
use Rattle.cost_plan.specs.Raising.{SettlesMove}
use Rattle.cost_plan.proofs.NodeLemmas.{cell-lt-node_count, node_count-le}
use Rattle.cost_plan.proofs.RaisingLemmas.{Raises-by, IsSettled-by, IsRaising-more, move_arc-on}
use Rattle.cost_plan.proofs.relax.relax_moves.Goals as goal

pub overflow_add-arc : goal.overflow_add-arc
overflow_add-arc c =
    let net = instance_of_rows c.args.net.now in
    let inside = c.moving-start.ensures.head in
    let few = node_count-le net (live_of_rows c.args.net.now) c.moving-start.ensures.sound in
    omega (arith, c.loop-round-test.true, c.last-round-end.ensures.most)

pub overflow_mul-arc : goal.overflow_mul-arc
overflow_mul-arc c =
    let product : c.weight-weight.result * c.loop-round.round ≤ MAX_WEIGHT * MAX_NET_ROUNDS = mul-le c.weight-weight.result c.loop-round.round MAX_WEIGHT MAX_NET_ROUNDS c.weight-weight.ensures.most (omega (arith, c.loop-round-test.true, c.last-round-end.ensures.most)) in
    omega arith

pub relax-requires-clause-head : goal.relax-requires-clause-head
relax-requires-clause-head c =
    let net = instance_of_rows c.args.net.now in
    let sound = c.moving-start.ensures.sound in
    let device = sound.on_device c.args.stay c.requires.stay in
    let inside = cell-lt-node_count net (net.device c.args.stay) c.loop-round.round (omega arith) (omega (arith, c.loop-round-test.true, c.last-round-end.ensures.within)) in
    omega (arith, ap (λ (a : Arc). a.head) c.moving-start.ensures.same, c.loop-round.invariant.raises.size, c.requires.size)

pub relax-requires-clause-up : goal.relax-requires-clause-up
relax-requires-clause-up c =
    let raises = c.loop-round.invariant.raises in
    rw (raises.size ∙ c.requires.size, raises.most ∙ c.requires.most) c.moving-start.ensures.up

pub loop-round-preserved : goal.loop-round-preserved
loop-round-preserved c =
    let net = instance_of_rows c.args.net.now in
    let f = schedule_of c.args.working.now in
    let before = c.loop-round.invariant in
    let start = c.moving-start.result in
    let sound = c.moving-start.ensures.sound in
    let arc : Arc = record { tail = start.tail; head = start.head + c.loop-round.round; up = start.up; down = c.weight-weight.result * c.loop-round.round; mark = start.mark } in
    let is : arc ≡ move_arc net f c.args.stay c.loop-round.round = move_arc-on net f c.args.stay c.loop-round.round c.weight-weight.result start c.moving-start.ensures.same c.weight-weight.ensures.same in
    let size : length c.loop-round.potentials.potentials ≡ node_count net = before.raises.size ∙ c.requires.size in
    let device = sound.on_device c.args.stay c.requires.stay in
    let cell_in = cell-lt-node_count net (net.device c.args.stay) c.loop-round.round (omega arith) (omega (arith, c.loop-round-test.true, c.last-round-end.ensures.within)) in
    let head_in : start.head + c.loop-round.round < node_count net = omega (arith, ap (λ (a : Arc). a.head) c.moving-start.ensures.same) in
    let residual : IsResidual net f arc = inl (record { stay = c.args.stay; round = c.loop-round.round; is = is; within = c.requires.stay; not_early = omega arith; not_late = omega arith }) in
    let step = Raises-by net f c.loop-round.potentials c.relax.new.self c.relax.result arc (node_count net) net.max_price c.relax.ensures.potentials c.relax.ensures.node size (before.raises.most ∙ c.requires.most) c.moving-start.ensures.tail head_in c.moving-start.ensures.up residual in
    IsRaising-more net f (SettlesMove net f c.args.stay) (net.arrival c.args.stay) c.args.potentials.now c.loop-round.potentials c.relax.new.self c.loop-round.found c.relax.result c.or-found.result c.loop-round.round c.or-found.ensures before step
    (λ none. IsSettled-by c.loop-round.potentials c.relax.result arc _ c.relax.ensures.node is none)
