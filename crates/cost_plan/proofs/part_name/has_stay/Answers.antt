use Rattle.std.proofs.Common.{◌∙◌, sym, arith}
use Rattle.round_net.specs.Rows.{instance_of_rows}
use Rattle.cost_plan.proofs.PartLemmas.{before-some}
use Rattle.cost_plan.proofs.part_name.has_stay.Goals as goal

pub returns-then-part_of_stay-part : goal.returns-then-part_of_stay-part
returns-then-part_of_stay-part c =
    let net = instance_of_rows c.args.net.now in
    sym (before-some net c.args.part net.stays c.loop-stay.stay (omega (arith, c.loop-stay-test.true, c.stays-stay-end.ensures.same)) (sym c.part_of_stay.ensures ∙ c.if-part_of_stay-part.true))
