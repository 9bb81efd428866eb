use Rattle.std.proofs.Common.{◌≡◌, ℕ, List, drop, length, ap, ◌∙◌, arith}
use Rattle.std.proofs.lemmas.List.{take_rest}
use Rattle.report_text.specs.TextLines.{lines}
use Rattle.report_text.proofs.TextLemmas.{fewer_lines}
use Rattle.report_text.proofs.lines.line_number.Goals as goal

pub overflow_sub-result : goal.overflow_sub-result
overflow_sub-result c =
    let one = c.count_lines.ensures.count in
    let two : c.count_lines-2.result ≡ length (lines (drop c.args.at c.args.text.now)) = c.count_lines-2.ensures.count ∙ ap (λ (l : List ℕ). length (lines l)) (take_rest c.args.text.now c.args.at) in
    let few = fewer_lines c.args.at c.args.text.now in
    omega arith

pub returns : goal.returns
returns c =
    let one = c.count_lines.ensures.count in
    let two : c.count_lines-2.result ≡ length (lines (drop c.args.at c.args.text.now)) = c.count_lines-2.ensures.count ∙ ap (λ (l : List ℕ). length (lines l)) (take_rest c.args.text.now c.args.at) in
    let few = fewer_lines c.args.at c.args.text.now in
    omega arith
