use Rattle.std.proofs.Common.{◌≡◌, ◌∙◌, ◌+◌, sym, arith, true, false}
use Rattle.wait_causes.specs.Origins.{cause_of}
use Rattle.wait_causes.specs.Words.{is_cause}
use Rattle.wait_causes.proofs.FirstWaitsLemmas.{last_here, last_more, changed}
use Rattle.wait_causes.proofs.WaitLemmas.{same_cause}
use Rattle.wait_causes.proofs.cause_runs.last_of.Goals as goal

pub returns-then-is : goal.returns-then-is
returns-then-is c = λ next.
    let f = cause_of c.args.origin.now c.args.device in
    let one : is_cause (f c.args.round) (f (c.args.round + 1)) ≡ true = rw (c.cause.ensures, c.cause-2.ensures) at (sym c.is.ensures ∙ c.if-is.true) in
    last_more f _ c.args.round c.args.next (same_cause _ _ one) next

pub returns : goal.returns
returns c = λ next.
    let f = cause_of c.args.origin.now c.args.device in
    let other : is_cause (f c.args.round) (f (c.args.round + 1)) ≡ false = rw (c.cause.ensures, c.cause-2.ensures) at (sym c.is.ensures ∙ c.if-is.false) in
    last_here f _ c.args.round (omega (arith, c.requires.last)) (λ lt. changed f c.args.round other)
