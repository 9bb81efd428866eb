use Rattle.slots.proofs.BoundLemmas.{counted_more, counted_all}
use Rattle.slots.proofs.times.count_from.Goals as goal

pub loop-count-preserved : goal.loop-count-preserved
loop-count-preserved c = counted_more c.args.times.now c.loop-count.count c.args.last c.requires.order c.loop-count-test.true c.if-times-count.true

pub returns-else-times-count : goal.returns-else-times-count
returns-else-times-count c = counted_all c.args.times.now c.loop-count.count c.args.last c.requires.order c.loop-count.invariant c.if-times-count.false
