use Rattle.std.proofs.Common.{◌∙◌, sym, arith}
use Rattle.capture.proofs.UsualLemmas.{middle_found, middle_more, middle_last}
use Rattle.capture.proofs.median.middle.Goals as goal

pub returns-then-reaches_half-clause-same : goal.returns-then-reaches_half-clause-same
returns-then-reaches_half-clause-same c = middle_found c.args.numbers.now c.loop-number.number c.loop-number.auto.number c.loop-number-test.true c.loop-number.invariant (sym c.reaches_half.ensures ∙ c.if-reaches_half.true)

pub loop-number-preserved : goal.loop-number-preserved
loop-number-preserved c = middle_more c.args.numbers.now c.loop-number.number c.loop-number.auto.number c.loop-number.invariant (sym c.reaches_half.ensures ∙ c.if-reaches_half.false)

pub returns-clause-same : goal.returns-clause-same
returns-clause-same c = middle_last c.args.numbers.now c.loop-number.number (let end = c.loop-number.auto.number-end in omega (arith, c.loop-number-test.false, end)) c.loop-number.invariant
