use Rattle.std.proofs.Common.{◌≡◌, ℕ, List, drop, length, sym, ap, ◌∙◌, arith, length-drop}
use Rattle.std.proofs.lemmas.List.{drop_all}
use Rattle.report_text.specs.TextLines.{lines}
use Rattle.report_text.proofs.TextLemmas.{some_lines}
use Rattle.report_text.proofs.lines.count_lines.Goals as goal
use Rattle.report_text.proofs.lines.count_lines.Goals.{then-at-next, else-at-next}

pub loop-at-preserved : goal.loop-at-preserved
loop-at-preserved c = elim c.if-at-next.branch [
  | then-at-next w ↦
      let text = c.args.text.now in
      let here = w.if-at-next.true in
      let lt = c.loop-at-test.true in
      let size = length-drop c.loop-at.at text in
      let some = some_lines (drop c.loop-at.at text) (omega arith) in
      let before : length (lines (drop c.loop-at.next text)) ≡ length (lines (drop c.loop-at.at text)) = ap (λ (i : ℕ). length (lines (drop i text))) (sym here) in
      let after : length (lines (drop c.if-at-next.next text)) ≡ length (drop 1 (lines (drop c.loop-at.at text))) =
      ap (λ (i : ℕ). length (lines (drop i text))) w.next-is ∙ ap (λ (ls : List (List ℕ)). length ls) w.after_line-next.ensures.lines in
      let one = length-drop 1 (lines (drop c.loop-at.at text)) in
      let counted = c.loop-at.invariant.counted in
      let few = c.loop-at.invariant.few in
      let count = w.count-is in
      let next = w.next-is in
      let within = w.after_line-next.ensures.within in
      let further = w.after_line-next.ensures.further lt in
      record { counted = omega arith; few = omega arith; passed = omega arith; within = omega arith }
  | else-at-next w ↦
      let other = w.if-at-next.false in
      let few = c.loop-at.invariant.few in
      let passed = c.loop-at.invariant.passed in
      let count = w.count-is in
      let next = w.next-is in
      record { counted = rw (count, next) c.loop-at.invariant.counted; few = omega arith; passed = omega arith; within = rw next c.loop-at.invariant.within }
]

pub returns-clause-count : goal.returns-clause-count
unfolding lines
returns-clause-count c =
    let text = c.args.text.now in
    let end = c.loop-at-test.false in
    let passed = c.loop-at.invariant.passed in
    let none : length (lines (drop c.loop-at.next text)) ≡ 0 = ap (λ (l : List ℕ). length (lines l)) (drop_all c.loop-at.next text (omega arith)) in
    let counted = c.loop-at.invariant.counted in
    omega arith
