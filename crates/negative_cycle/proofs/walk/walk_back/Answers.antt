use Rattle.std.proofs.Common.{arith}
use Rattle.negative_cycle.proofs.WalkLemmas.{IsWalked-pushed, IsLoop-from_walk}
use Rattle.negative_cycle.proofs.walk.walk_back.Goals as goal

pub loop-places-preserved : goal.loop-places-preserved
loop-places-preserved c =
    let arc = c.in-Some.arc in
    let by = c.requires.preds c.loop-places.node arc c.in-Some.is in
    IsWalked-pushed c.args.preds.now c.loop-places.places c.args.start c.loop-places.path.items c.push.new.self.items c.loop-places.node c.len.result arc c.loop-places-test.true c.in-Some.is by c.in_ok-push.ensures.items (omega (arith, c.in_ok-push.ensures.len)) c.loop-places.invariant

pub returns-clause-closes : goal.returns-clause-closes
returns-clause-closes c = IsLoop-from_walk c.args.preds.now c.loop-places.places c.args.start c.loop-places.path.items c.loop-places.node c.loop-places-test.false c.loop-places.invariant
