use Rattle.std.proofs.Common.{◌<◌, ◌≤◌, length, arith}
use Rattle.std.proofs.lemmas.Grind.{common_steps}
use Rattle.round_net.specs.Rows.{instance_of_rows}
use Rattle.cost_plan.proofs.NodeLemmas.{cell-lt-node_count}
use Rattle.cost_plan.proofs.PartLemmas.{ResourceHasPotentials-set, ResourceHasPotentials-past}
use Rattle.cost_plan.proofs.part.put_resource.Goals as goal
use Rattle.cost_plan.proofs.part.put_resource.Goals.{in-Some, in_default}

pub bounds-potentials-cell : goal.bounds-potentials-cell
bounds-potentials-cell c =
    let inside = cell-lt-node_count (instance_of_rows c.args.net.now) c.args.resource c.loop-round.round c.requires.resource (omega (arith, c.loop-round-test.true, c.rounds-round-end.ensures.same)) in
    omega (arith, inside, c.node-cell.ensures.same, c.requires.size)

pub loop-round-preserved : goal.loop-round-preserved
loop-round-preserved c =
    let net = instance_of_rows c.args.net.now in
    let round = c.loop-round.round in
    let from = c.args.from.now in
    let last : round ≤ net.rounds = omega (arith, c.loop-round-test.true, c.rounds-round-end.ensures.same) in
    let inside = cell-lt-node_count net c.args.resource round c.requires.resource last in
    elim c.match-get.branch [
      | in-Some w ↦
          let some : round < length from = grind (arith, common_steps) in
          rw w.potentials-is
          (ResourceHasPotentials-set net c.args.resource round _ _ from c.args.potentials.now c.loop-round.potentials last some c.node-cell.ensures.same (omega (arith, inside, c.node-cell.ensures.same, c.requires.size, c.loop-round.auto.potentials)) (grind (arith, common_steps)) c.loop-round.invariant)
      | in_default w ↦
          let past : length from ≤ round = grind (arith, common_steps) in
          rw w.potentials-is (ResourceHasPotentials-past net c.args.resource round from c.args.potentials.now c.loop-round.potentials past c.loop-round.invariant)
    ]
