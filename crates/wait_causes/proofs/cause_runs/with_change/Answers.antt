use Rattle.std.proofs.Common.{◌≡◌, ◌∙◌, ◌+◌, sym, ap, arith, true, false}
use Rattle.wait_causes.specs.Origins.{cause_of}
use Rattle.wait_causes.specs.Words.{is_cause}
use Rattle.wait_causes.specs.FirstWaits.{has_changed, one_if}
use Rattle.wait_causes.proofs.FirstWaitsLemmas.{changed, unchanged}
use Rattle.wait_causes.proofs.cause_runs.with_change.Goals as goal

pub returns-then-is : goal.returns-then-is
returns-then-is c =
    let f = cause_of c.args.origin.now c.args.device in
    let one : is_cause (f c.args.round) (f (c.args.round + 1)) ≡ true = rw (c.cause.ensures, c.cause-2.ensures) at (sym c.is.ensures ∙ c.if-is.true) in
    let none : one_if (has_changed f (c.args.round + 1)) ≡ 0 = ap one_if (unchanged f c.args.round one) in
    omega (arith, none)

pub returns : goal.returns
returns c =
    let f = cause_of c.args.origin.now c.args.device in
    let other : is_cause (f c.args.round) (f (c.args.round + 1)) ≡ false = rw (c.cause.ensures, c.cause-2.ensures) at (sym c.is.ensures ∙ c.if-is.false) in
    let one : one_if (has_changed f (c.args.round + 1)) ≡ 1 = ap one_if (changed f c.args.round other) in
    omega (arith, one)
