use Rattle.std.proofs.Common.{arith}
use Rattle.capture.proofs.SortLemmas.{all_keys, key_more}
use Rattle.capture.proofs.arrival_order.arrival_keys.Goals as goal

pub loop-place-preserved : goal.loop-place-preserved
loop-place-preserved c = rw c.in_ok-push.ensures.items (key_more c.loop-place.keys.items c.args.requests.now c.loop-place.place _ (omega arith) c.loop-place.invariant)

pub returns : goal.returns
returns c = all_keys _ c.args.requests.now c.loop-place.place c.loop-place.auto.place-end c.loop-place-test.false c.loop-place.invariant
