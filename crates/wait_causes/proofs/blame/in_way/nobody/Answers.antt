use Rattle.std.proofs.Common.{◌∙◌, ◌++◌, ◌∷◌, [], ap, None}
use Rattle.std.proofs.lemmas.List.{replicate_more}
use Rattle.wait_causes.proofs.blame.in_way.nobody.Goals as goal

pub loop-round-preserved : goal.loop-round-preserved
loop-round-preserved c = c.in_ok-push.ensures.items ∙ ap (λ ws. ws ++ None ∷ []) c.loop-round.invariant ∙ replicate_more c.loop-round._round None
