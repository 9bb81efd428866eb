use Rattle.std.proofs.Common.{arith}
use Rattle.round_net.specs.Rows.{instance_of_rows}
use Rattle.cost_plan.proofs.NodeLemmas.{cell-lt-node_count, node_of-lt-node_count}
use Rattle.cost_plan.proofs.arcs.adding.Goals as goal

pub returns-clause-tail : goal.returns-clause-tail
returns-clause-tail c = omega (arith, c.node.ensures.same, cell-lt-node_count (instance_of_rows c.args.net.now) c.args.resource c.args.round c.requires.resource c.requires.round)

pub returns-clause-head : goal.returns-clause-head
returns-clause-head c = omega (arith, c.node_above.ensures.same, node_of-lt-node_count (instance_of_rows c.args.net.now) c.args.up c.args.round c.requires.round)
