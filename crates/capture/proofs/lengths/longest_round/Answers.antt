use Rattle.std.proofs.Common.{arith}
use Rattle.capture.proofs.LengthLemmas.{half_small, longest_none, longest_some}
use Rattle.capture.proofs.lengths.longest_round.Goals as goal

pub overflow_cast-result : goal.overflow_cast-result
overflow_cast-result c = let double = c.from.ensures in rw double (omega (arith, half_small c.loop-request.waits c.loop-request.count c.loop-request.invariant.small))

pub returns-then-count-eq0 : goal.returns-then-count-eq0
returns-then-count-eq0 c = longest_none c.args.requests.now c.loop-request.request-index c.loop-request.count c.loop-request-test.false c.loop-request.invariant.count c.if-count-eq0.true

pub returns-else-count-eq0 : goal.returns-else-count-eq0
returns-else-count-eq0 c = longest_some c.args.requests.now c.loop-request.request-index c.loop-request.waits c.loop-request.count c.from.result c.loop-request-test.false c.loop-request.invariant.waits c.loop-request.invariant.count c.if-count-eq0.false c.from.ensures
