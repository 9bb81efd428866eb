use Rattle.capture.proofs.PartLemmas.{kind_more}
use Rattle.capture.proofs.parts.add_parts.Goals as goal

pub loop-number-preserved : goal.loop-number-preserved
loop-number-preserved c = kind_more c.args.kind c.loop-number.number c.args.parts.now.items c.loop-number.parts.items c.push.new.self.items c.loop-number.invariant c.in_ok-push.ensures.items
