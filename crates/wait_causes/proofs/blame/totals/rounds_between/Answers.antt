use Rattle.std.proofs.Common.{◌≡◌, ◌∙◌, arith}
use Rattle.wait_causes.specs.BlameAmounts.{rounds_for}
use Rattle.wait_causes.proofs.BlameTotalLemmas.{between_found, between_none, few_for}
use Rattle.wait_causes.proofs.blame.totals.rounds_between.Goals as goal

pub returns-then-to-from-clause-found : goal.returns-then-to-from-clause-found
returns-then-to-from-clause-found c = λ who m d are. between_none who m d c.args.from c.args.to c.if-to-from.true

pub returns-clause-found : goal.returns-clause-found
returns-clause-found c = λ who m d are. c.saturating_sub.ensures ∙ between_found who m d c.args.totals.now c.args.from c.args.to 0 0 c.requires.first c.if-to-from.false c.requires.last are

pub returns-clause-few : goal.returns-clause-few
returns-clause-few c =
    let of = c.requires.totals.0 in
    let m = c.requires.totals.1 in
    let found : c.saturating_sub.result ≡ rounds_for (λ d. of) m 0 c.args.from c.args.to = c.saturating_sub.ensures ∙ between_found (λ d. of) m 0 c.args.totals.now c.args.from c.args.to 0 0 c.requires.first c.if-to-from.false c.requires.last c.requires.totals.2 in
    omega (arith, found, few_for (λ d. of) m 0 c.args.from c.args.to)
