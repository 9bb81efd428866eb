use Rattle.std.proofs.Common.{arith}
use Rattle.round_net.specs.Rows.{instance_of_rows}
use Rattle.cost_plan.proofs.NodeLemmas.{cell-lt-node_count, node_of-lt-node_count}
use Rattle.cost_plan.proofs.pricing.price_of.Goals as goal

pub potential-cell-requires : goal.potential-cell-requires
potential-cell-requires c = omega (arith, c.node.ensures.same, cell-lt-node_count (instance_of_rows c.args.net.now) c.args.resource c.args.round c.requires.resource c.requires.last, c.requires.size)

pub potential-requires : goal.potential-requires
potential-requires c =
    let above = node_of-lt-node_count (instance_of_rows c.args.net.now) c.args.up c.args.round c.requires.last in
    omega (arith, c.node_above.ensures.same, above, c.requires.size)
