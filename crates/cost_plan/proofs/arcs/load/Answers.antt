use Rattle.std.proofs.Common.{ℕ, ◌<◌, ◌∙◌, ap, arith, length, get_or}
use Rattle.std.proofs.lemmas.List.{get_or_read}
use Rattle.round_net.specs.Rows.{instance_of_rows}
use Rattle.cost_plan.proofs.NodeLemmas.{cell-in}
use Rattle.cost_plan.proofs.arcs.load.Goals as goal

pub index-requires : goal.index-requires
index-requires c = omega (arith, c.node.ensures.same, cell-in (instance_of_rows c.args.net.now) c.args.resource c.args.round c.requires.resource c.requires.round, c.requires.working.loads_are.size)

pub returns : goal.returns
returns c =
    let loads = c.args.working.now.loads.items in
    let inside : c.node.result < length loads = omega (arith, c.node.ensures.same, cell-in (instance_of_rows c.args.net.now) c.args.resource c.args.round c.requires.resource c.requires.round, c.requires.working.loads_are.size) in
    get_or_read loads _ _ inside c.index.ensures 0 ∙ ap (λ (i : ℕ). get_or loads i 0) c.node.ensures.same ∙ c.requires.working.loads_are.counts c.args.resource c.args.round c.requires.resource c.requires.round
