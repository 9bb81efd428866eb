use Rattle.std.proofs.Common.{length, ap, ◌∙◌}
use Rattle.std.proofs.lemmas.List.{length-map}
use Rattle.camxpt_c.specs.Attached.{user_of}
use Rattle.camxpt_c.proofs.carrying.with_users.Goals as goal

pub of-requires : goal.of-requires
of-requires c = ap length (c.deref-2.ensures.value ∙ c.in_ok-users.ensures) ∙ length-map c.deref.result.now (user_of c.args.from.now) ∙ ap length c.deref.ensures.value ∙ c.requires
