use Rattle.std.proofs.Common.{ap, ◌∙◌, ◌&&◌}
use Rattle.event_rules.specs.Counts.{wants_finish}
use Rattle.xpt_core.proofs.CcbLemmas.{recovering_lives}
use Rattle.xpt_core.proofs.refusals.wants_finish.Goals as goal

pub returns : goal.returns
returns c =
    let t = c.args.state.now in
    c.wants_finish.ensures ∙ ap (λ lives. lives && wants_finish t.events c.args.ccb) (recovering_lives t.rules t.config t.events c.args.ccb c.requires.legal c.requires.recovering)
