use Rattle.capture.proofs.SortLemmas.{AreInOrder-sorted}
use Rattle.capture.proofs.arrival_order.keys_in_order.Goals as goal

pub returns : goal.returns
returns c = AreInOrder-sorted c.args.requests.now _ _ _ c.in_ok-keys.ensures c.from.ensures.1 c.into_sorted_vec.ensures.permutation (c.into_sorted_vec.ensures.sorted c.from.ensures.2)
