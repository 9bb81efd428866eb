use Rattle.std.proofs.Common.{◌≡◌, ◌∙◌, sym, ap, Some, None}
use Rattle.sweep.specs.Settings.{Choice}
use Rattle.sweep.proofs.ChoiceLemmas.{refused_at, none_more}
use Rattle.sweep.proofs.choices.first_refused.Goals as goal

pub returns-in-Some-clause-first : goal.returns-in-Some-clause-first
returns-in-Some-clause-first c =
    sym (refused_at c.args.config.now c.args.choices.now c.loop-at.at c.index-choices-at.result c.in-Some.why c.loop-at-test.true c.loop-at.invariant
    (rw (sym c.index-choices-at.is) (sym c.choice_fault.ensures ∙ c.in-Some.is)))

pub loop-at-preserved : goal.loop-at-preserved
loop-at-preserved c =
    none_more c.args.config.now c.args.choices.now c.loop-at.at c.index-choices-at.result c.loop-at-test.true c.loop-at.invariant
    (rw (sym c.index-choices-at.is) (sym c.choice_fault.ensures ∙ c.in_default.is))
