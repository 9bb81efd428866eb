use Rattle.std.proofs.Common.{ap, ◌∙◌}
use Rattle.xpt_core.specs.Transport.{Transport}
use Rattle.camxpt_c.specs.Carries.{gone_on, old_numbers}
use Rattle.camxpt_c.proofs.HandLemmas.{carried_count}
use Rattle.camxpt_c.proofs.carrying.fresh.Goals as goal

pub with_users-requires : goal.with_users-requires
with_users-requires c = carried_count c.args.port.now.xpt _ c.args.limits _ (c.in-Ok.ensures.numbers ∙ ap old_numbers c.xpt.ensures) (c.in-Ok.ensures.xpt ∙ ap (λ (t : Transport). gone_on t c.args.limits) c.xpt.ensures)
