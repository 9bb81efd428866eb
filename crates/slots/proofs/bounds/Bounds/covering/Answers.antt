use Rattle.std.proofs.Common.{arith}
use Rattle.slots.proofs.BoundLemmas.{counted_through}
use Rattle.slots.proofs.bounds.Bounds.covering.Goals as goal

pub overflow_sub-result : goal.overflow_sub-result
overflow_sub-result c =
    let b = counted_through c.args.self.now.begins.items c.args.time _ _ c.deref.ensures.value c.count_up_to.ensures in
    let e = counted_through c.args.self.now.ends.items c.args.time _ _ c.deref-2.ensures.value c.count_up_to-2.ensures in
    omega (arith, b, e, c.requires.begun c.args.time (omega arith))

pub returns : goal.returns
returns c =
    let b = counted_through c.args.self.now.begins.items c.args.time _ _ c.deref.ensures.value c.count_up_to.ensures in
    let e = counted_through c.args.self.now.ends.items c.args.time _ _ c.deref-2.ensures.value c.count_up_to-2.ensures in
    omega (arith, b, e, c.requires.begun c.args.time (omega arith))
