use Rattle.std.proofs.Common.{ap, ◌∙◌, ◌&&◌}
use Rattle.event_rules.specs.Counts.{wants_requeue}
use Rattle.xpt_core.proofs.CcbLemmas.{recovering_lives}
use Rattle.xpt_core.proofs.refusals.wants_requeue.Goals as goal

pub returns : goal.returns
returns c =
    let t = c.args.state.now in
    c.wants_requeue.ensures ∙ ap (λ lives. lives && wants_requeue t.events c.args.ccb) (recovering_lives t.rules t.config t.events c.args.ccb c.requires.legal c.requires.recovering)
