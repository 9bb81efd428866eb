use Rattle.std.proofs.Common.{◌≡◌, ◌∙◌, refl, rules, tests, not, ◌==◌}
use Rattle.std.proofs.lemmas.Iterator.{YieldsList-from_slice}
use Rattle.std.proofs.lemmas.Iterator.Consumers.{count_from_yields_List}
use Rattle.std.proofs.lemmas.Iterator.Search.{YieldsList-from_take_while}
use Rattle.std.proofs.lemmas.List.Folds.{length-prefix_len}
use Rattle.report_text.proofs.lines.line_len.Goals as goal

pub returns-clause-count : goal.returns-clause-count
returns-clause-count c =
    let text = c.args.text.now in
    let is : c.take_while.result.iter.rest.now ≡ text = rw (c.take_while.ensures.source, c.iter.ensures.rest) refl in
    count_from_yields_List c.take_while.result _ c.count.ensures.ran
    (YieldsList-from_take_while _ (λ c. not (c == 10)) (YieldsList-from_slice text is) c.take_while.ensures.closure c.take_while.ensures.done (λ x b q k. search (rules, tests)))
    ∙ length-prefix_len (λ c. not (c == 10)) text
