use Rattle.std.proofs.Common.{◌≡◌, ◌<◌, ◌≤◌, [], length, drop, get_or, true, false, refl, arith, ne_eqb, eq-eqb, ◌==◌}
use Rattle.report_text.specs.Words.{instance_of_rows}
use Rattle.report_text.specs.TextLines.{lines}
use Rattle.report_text.proofs.ReadLemmas.{behind_price, row_step}
use Rattle.report_text.proofs.price_lines.read_row.Goals as goal
use Rattle.report_text.proofs.price_lines.read_row.Goals.{then-price-gt0, else-price-gt0}

pub loop-passed-preserved : goal.loop-passed-preserved
loop-passed-preserved c =
    let net = c.args.net.now in
    let text = c.args.text.now in
    let rest = lines (drop c.loop-passed.next text) in
    let v = c.price_on-price.result.0 in
    let lt : c.loop-passed.passed < (instance_of_rows net).rounds = omega arith in
    let none = rw (c.max_price-most.ensures.same, c.requires.whose, c.loop-passed.invariant.line) at c.price_on-price.ensures.none in
    let some = rw (c.max_price-most.ensures.same, c.requires.whose, c.loop-passed.invariant.line) at c.price_on-price.ensures.some in
    let moved : (lines (drop c.if-price-gt0.next text) ≡ behind_price v rest) × (c.if-price-gt0.line.now ≡ get_or (lines (drop c.if-price-gt0.next text)) 0 []) × (c.if-price-gt0.next ≤ length text) =
    elim c.if-price-gt0.branch [
      | then-price-gt0 w ↦
          let more = w.if-price-gt0.true in
          let other : (v == 0) ≡ false = ne_eqb v 0 (λ is. omega arith) in
          (rw (w.next-is, other) w.after_line-next.ensures.lines, rw (w.line-is, w.next-is) w.line_at-line-then-price-gt0.ensures, rw w.next-is w.after_line-next.ensures.within)
      | else-price-gt0 w ↦
          let less = w.if-price-gt0.false in
          let same : (v == 0) ≡ true = eq-eqb v 0 (omega arith) in
          (rw (w.next-is, same) refl, rw (w.line-is, w.next-is) c.loop-passed.invariant.line, rw w.next-is c.loop-passed.invariant.within)
    ] in
    record {
      read = λ best excess rounds few start h.
          let r = c.loop-passed.invariant.read best excess rounds few start h in
          row_step net text best excess rounds c.loop-passed.prices.items c.push.new.self.items c.args.row c.loop-passed.passed v c.loop-passed.next c.if-price-gt0.next c.requires.kept c.max_price-most.ensures.sound few r.0 c.requires.row lt r.1
          (none, some) moved.0 moved.2 c.in_ok-push.ensures.items;
      line = moved.1;
      within = moved.2;
    }
