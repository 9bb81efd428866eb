use Rattle.std.proofs.Common.{ap, ◌∙◌, not, ◌==◌}
use Rattle.event_rules.specs.Counts.{ccbs, is_recovering}
use Rattle.xpt_carry.specs.Carry.{has_case}
use Rattle.xpt_carry.proofs.SettledLemmas.{any_counted}
use Rattle.xpt_carry.proofs.settled.has_case.Goals as goal

pub returns : goal.returns
unfolding has_case
returns c =
    let es = c.args.state.now.events in
    ap (λ n. not (n == 0)) c.case_count.ensures ∙ any_counted (is_recovering es) (ccbs es)
