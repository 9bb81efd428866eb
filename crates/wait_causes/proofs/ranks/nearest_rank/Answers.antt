use Rattle.std.proofs.Common.{◌+◌, ◌-◌, ◌/◌}
use Rattle.wait_causes.proofs.PartLemmas.{middle_lies, sought_above, sought_found, sought_none}
use Rattle.wait_causes.proofs.ranks.nearest_rank.Goals as goal

pub loop-low-preserved : goal.loop-low-preserved
loop-low-preserved c =
    let low = c.loop-low.low in
    let high = c.loop-low.high in
    let lies = middle_lies low high c.loop-low-test.true in
    sought_above c.args.most c.args.thousandths c.args.numbers.now low high (low + (high - low) / 2) c.within.result lies.0 lies.1 c.if-thousandths-numbers.false c.within.ensures.same c.loop-low.invariant

pub returns-then-low-most : goal.returns-then-low-most
returns-then-low-most c = sought_found c.args.most c.args.thousandths c.args.numbers.now c.loop-low.low c.loop-low.high c.loop-low-test.false c.if-low-most.true c.loop-low.invariant

pub returns-else-low-most : goal.returns-else-low-most
returns-else-low-most c = sought_none c.args.most c.args.thousandths c.args.numbers.now c.loop-low.low c.loop-low.high c.if-low-most.false c.loop-low.invariant
