use Rattle.std.proofs.Common.{◌∙◌, ap, sym, length, arith}
use Rattle.trace_file.proofs.ScriptRules.{all_items, ruled_in, answered_in, not_both, rules_kept}
use Rattle.trace_file.proofs.script_rules.keep_rules.Goals as goal

pub returns-then-not-are_answers-clause-broken : goal.returns-then-not-are_answers-clause-broken
returns-then-not-are_answers-clause-broken c limits same is =
    not_both _ _ (c.are_answers.ensures ∙ all_items _ c.args.answers.now) (answered_in _ limits _ _ is) c.if-not-are_answers.true

pub returns-clause-kept : goal.returns-clause-kept
returns-clause-kept c limits good =
    rules_kept c.args.config.now limits c.args.drivers.now c.args.answers.now (omega (arith, c.if-drivers-ne-DRIVERS.false)) (c.if-answers-lanes.false ∙ ap length c.lanes.ensures.same)
    (sym c.are_few.ensures ∙ c.if-not-are_few.false) (sym c.are_few-2.ensures ∙ c.if-not-are_few-2.false) (sym c.are_answers.ensures ∙ c.if-not-are_answers.false) (c.are_ruled.ensures.ruled good)

pub returns-clause-broken : goal.returns-clause-broken
returns-clause-broken c limits broken is = c.are_ruled.ensures.broken broken (ruled_in c.args.config.now limits _ _ is)
