use Rattle.std.proofs.Common.{◌≡◌, ℕ, List, [], ◌∷◌, length, drop, get_or, Bool, true, false, not, refl, sym, ap, ◌∙◌, arith, rules, length-drop, inr, codes}
use Rattle.std.proofs.lemmas.List.{drop_all}
use Rattle.std.proofs.lemmas.Slice.Eq.{bytes_eq-Decides}
use Rattle.report_text.specs.TextLines.{lines}
use Rattle.report_text.proofs.TextLemmas.{some_lines}
use Rattle.report_text.proofs.ReadLemmas.{head_some}
use Rattle.report_text.proofs.reader.read_end.Goals as goal

of_not : (b : Bool) → not b ≡ false → b ≡ true
of_not true e = refl
of_not false e = absurd cc

pub returns-then-next-text-clause-err : goal.returns-then-next-text-clause-err
returns-then-next-text-clause-err c =
    let text = c.args.text.now in
    let rest = lines (drop c.args.at text) in
    let is : c.as_slice.result.now ≡ codes "end" = search rules in
    let line : get_or rest 0 [] ≡ codes "end" = sym c.line_at.ensures ∙ (bytes_eq-Decides c.line_at.result.now c.as_slice.result.now).0 (of_not _ (sym c.ne.ensures ∙ c.if-ne.false)) ∙ is in
    let more : length (lines (drop c.after_line-next.result text)) ≡ length (drop 1 rest) = ap (λ (ls : List (List ℕ)). length ls) c.after_line-next.ensures.lines in
    let size = length-drop c.after_line-next.result text in
    let lt = c.if-next-text.true in
    let some = some_lines (drop c.after_line-next.result text) (omega arith) in
    let number = c.line_number-then-next-text.ensures in
    inr (line, omega arith, omega arith)

pub returns-clause-ok : goal.returns-clause-ok
unfolding lines
returns-clause-ok c =
    let text = c.args.text.now in
    let rest = lines (drop c.args.at text) in
    let is : c.as_slice.result.now ≡ codes "end" = search rules in
    let line : get_or rest 0 [] ≡ codes "end" = sym c.line_at.ensures ∙ (bytes_eq-Decides c.line_at.result.now c.as_slice.result.now).0 (of_not _ (sym c.ne.ensures ∙ c.if-ne.false)) ∙ is in
    let none : drop 1 rest ≡ [] = sym c.after_line-next.ensures.lines ∙ ap lines (drop_all c.after_line-next.result text c.if-next-text.false) in
    head_some rest (codes "end") line (omega arith) ∙ ap (λ (ls : List (List ℕ)). codes "end" ∷ ls) none
