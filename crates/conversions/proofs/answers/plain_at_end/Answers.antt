use Rattle.std.proofs.Common.{length, not, reverse, sym, ◌∙◌}
use Rattle.std.specs.List.{position_or_len}
use Rattle.std.proofs.lemmas.List.{length-reverse}
use Rattle.std.proofs.lemmas.List.Sums.{prefix_len-le-length}
use Rattle.conversions.specs.Answers.{is_other}
use Rattle.conversions.proofs.AnswerLemmas.{place_none}
use Rattle.conversions.proofs.answers.plain_at_end.Goals as goal

pub returns-in-None-clause-same : goal.returns-in-None-clause-same
returns-in-None-clause-same c =
    let back = reverse c.args.outcomes.now in
    sym (length-reverse c.args.outcomes.now)
    ∙ place_none (position_or_len is_other back) (length back) (prefix_len-le-length (λ o. not (is_other o)) back) (sym c.last_other.ensures ∙ c.in-None.is)
