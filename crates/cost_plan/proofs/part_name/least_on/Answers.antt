use Rattle.std.proofs.Common.{◌∙◌, sym, arith}
use Rattle.round_net.specs.Rows.{instance_of_rows}
use Rattle.cost_plan.proofs.PartLemmas.{least_on-first, least_on-none}
use Rattle.cost_plan.proofs.part_name.least_on.Goals as goal

pub returns-then-is_on : goal.returns-then-is_on
returns-then-is_on c =
    let net = instance_of_rows c.args.net.now in
    least_on-first net c.args.link c.loop-adapter.adapter (omega (arith, c.loop-adapter-test.true, c.adapters-adapter-end.ensures.same)) c.loop-adapter.invariant (sym c.is_on.ensures ∙ c.if-is_on.true)

pub returns : goal.returns
returns c =
    let net = instance_of_rows c.args.net.now in
    c.adapters.ensures.same ∙ least_on-none net c.args.link (λ b less. c.loop-adapter.invariant b (omega (arith, c.loop-adapter-test.false, c.adapters-adapter-end.ensures.same)))
