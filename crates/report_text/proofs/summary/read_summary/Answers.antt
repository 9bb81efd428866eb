use Rattle.std.proofs.Common.{◌≡◌, ℕ, List, [], ◌∷◌, drop, replicate, refl, subst, arith}
use Rattle.std.proofs.lemmas.List.{length-replicate, replicate-append-replicate}
use Rattle.std.proofs.lemmas.Result.{err_from_is_err_and}
use Rattle.report_text.specs.TextLines.{lines}
use Rattle.report_text.specs.Claims.{fault_line}
use Rattle.report_text.specs.Reading.{HasRead}
use Rattle.report_text.proofs.ReadLemmas.{none_read, none_small, filled_known, filled_top, known_step, known_fails, best_step, best_fails, excess_step, excess_fails}
use Rattle.report_text.proofs.summary.read_summary.Goals as goal

pub loop-line-init : goal.loop-line-init
loop-line-init c = record { read = none_read c.args.net.now c.args.text.now; within = omega arith }

pub returns-in_err-next-clause-err : goal.returns-in_err-next-clause-err
returns-in_err-next-clause-err c =
    let p = err_from_is_err_and c.from_residual.result c.from_residual.ensures.1 in
    let line = c.loop-line.line in
    let wrong = c.in_err-next.ensures.err in
    rw (p.1, p.2)
    (known_fails c.args.net.now c.args.text.now (replicate line 0) line (fault_line c.in_err-next.field-0.0) (lines (drop c.loop-line.next c.args.text.now)) (length-replicate line 0) c.loop-line-test.true c.loop-line.invariant.read
    (filled_known c.args.net.now line c.live_cost-live.ensures.sound c.loop-line-test.true) wrong.1 (rw (c.known_word.ensures, c.known_number-number.ensures) at wrong.0))

pub loop-line-preserved : goal.loop-line-preserved
loop-line-preserved c =
    let line = c.loop-line.line in
    let rest = lines (drop c.loop-line.next c.args.text.now) in
    let ok = c.in_ok-next.ensures.ok in
    let step = known_step c.args.net.now c.args.text.now (replicate line 0) line rest (length-replicate line 0) c.loop-line-test.true (rw (c.known_word.ensures, c.known_number-number.ensures) at ok.0) c.loop-line.invariant.read in
    record {
      read = rw ok.1 (subst (λ (us : List ℕ). HasRead c.args.net.now c.args.text.now us (drop 1 rest)) (replicate-append-replicate line 1 0) step);
      within = ok.2;
    }

pub returns-in_err-best-clause-err : goal.returns-in_err-best-clause-err
returns-in_err-best-clause-err c =
    let p = err_from_is_err_and c.from_residual-in_err-best.result c.from_residual-in_err-best.ensures.1 in
    let rest = lines (drop c.loop-line.next c.args.text.now) in
    let five : c.loop-line.line ≡ 5 = omega arith in
    let read : HasRead c.args.net.now c.args.text.now (replicate 5 0) rest = subst (λ (k : ℕ). HasRead c.args.net.now c.args.text.now (replicate k 0) rest) five c.loop-line.invariant.read in
    let wrong = c.in_err-best.ensures.err in
    rw (p.1, p.2)
    (best_fails c.args.net.now c.args.text.now (replicate 5 0) (fault_line c.in_err-best.field-0.0) rest refl read (filled_top c.args.net.now 0 0 (replicate 5 0) (0 ∷ 0 ∷ []) c.live_cost-live.ensures.sound (omega arith) (omega arith) refl) wrong.1 wrong.0)

pub returns-in_err-excess-clause-err : goal.returns-in_err-excess-clause-err
returns-in_err-excess-clause-err c =
    let p = err_from_is_err_and c.from_residual-in_err-excess.result c.from_residual-in_err-excess.ensures.1 in
    let rest = lines (drop c.loop-line.next c.args.text.now) in
    let five : c.loop-line.line ≡ 5 = omega arith in
    let read : HasRead c.args.net.now c.args.text.now (replicate 5 0) rest = subst (λ (k : ℕ). HasRead c.args.net.now c.args.text.now (replicate k 0) rest) five c.loop-line.invariant.read in
    let ok = c.in_ok-best.ensures.ok in
    let best = c.in_ok-best.best in
    let us : List ℕ = 0 ∷ 0 ∷ 0 ∷ 0 ∷ 0 ∷ best ∷ [] in
    let read' : HasRead c.args.net.now c.args.text.now us (lines (drop c.in_ok-best.sixth c.args.text.now)) = rw ok.2 (best_step c.args.net.now c.args.text.now (replicate 5 0) best rest refl ok.0 ok.1 read) in
    let wrong = c.in_err-excess.ensures.err in
    rw (p.1, p.2)
    (excess_fails c.args.net.now c.args.text.now us (fault_line c.in_err-excess.field-0.0) (lines (drop c.in_ok-best.sixth c.args.text.now)) refl read' (filled_top c.args.net.now best 0 us (0 ∷ []) c.live_cost-live.ensures.sound ok.0 (omega arith) refl) wrong.1 wrong.0)

pub returns-clause-ok : goal.returns-clause-ok
returns-clause-ok c =
    let rest = lines (drop c.loop-line.next c.args.text.now) in
    let five : c.loop-line.line ≡ 5 = omega arith in
    let read : HasRead c.args.net.now c.args.text.now (replicate 5 0) rest = subst (λ (k : ℕ). HasRead c.args.net.now c.args.text.now (replicate k 0) rest) five c.loop-line.invariant.read in
    let ok = c.in_ok-best.ensures.ok in
    let best = c.in_ok-best.best in
    let us : List ℕ = 0 ∷ 0 ∷ 0 ∷ 0 ∷ 0 ∷ best ∷ [] in
    let read' : HasRead c.args.net.now c.args.text.now us (lines (drop c.in_ok-best.sixth c.args.text.now)) = rw ok.2 (best_step c.args.net.now c.args.text.now (replicate 5 0) best rest refl ok.0 ok.1 read) in
    let ok' = c.in_ok-excess.ensures.ok in
    record {
      small_best = ok.0;
      small_excess = ok'.0;
      small_rounds = none_small _;
      small_prices = none_small _;
      so_far = rw ok'.2 (excess_step c.args.net.now c.args.text.now us c.in_ok-excess.excess (lines (drop c.in_ok-best.sixth c.args.text.now)) refl ok'.0 ok'.1 read');
      within = ok'.3;
    }
