use Rattle.std.proofs.Common.{arith, sym}
use Rattle.slots.proofs.ServiceLemmas.{mean_of-some, mean_of-none}
use Rattle.slots.proofs.service.Total.mean.Goals as goal

pub returns-then-self-eq0 : goal.returns-then-self-eq0
returns-then-self-eq0 c = sym (mean_of-none c.args.self.now.sum c.args.self.now.count c.if-self-eq0.true (omega (arith, c.args.self.now.within)))

pub returns : goal.returns
returns c = sym (mean_of-some c.args.self.now.sum c.args.self.now.count (omega (arith, c.if-self-eq0.false)))
