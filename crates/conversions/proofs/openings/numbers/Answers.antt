use Rattle.conversions.proofs.GreatestLemmas.{numbers_more}
use Rattle.conversions.proofs.openings.numbers.Goals as goal

pub loop-number-preserved : goal.loop-number-preserved
loop-number-preserved c = numbers_more c.loop-number.number c.loop-number.numbers.items c.push.new.self.items c.loop-number.invariant c.in_ok-push.ensures.items
