use Rattle.std.proofs.Common.{take}
use Rattle.wait_causes.proofs.WayLemmas.{AreWays}
use Rattle.wait_causes.proofs.blame.in_way.in_way_of.Given as goal

abbrev pub invariant-loop-stay : goal.invariant-loop-stay
invariant-loop-stay l = AreWays l.explanation.origin l.device (take l.stay-index l.stay-items) l.ways.items
