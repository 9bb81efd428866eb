use Rattle.slots.proofs.BoundLemmas.{AreBounds-made}
use Rattle.slots.proofs.bounds.bounds_of.Goals as goal

pub returns : goal.returns
returns c = AreBounds-made c.args.spans.now _ _ _ _ c.in_ok-begins.ensures c.in_ok-ends.ensures c.sorted.ensures.moved c.sorted-2.ensures.moved c.sorted.ensures.sorted c.sorted-2.ensures.sorted
