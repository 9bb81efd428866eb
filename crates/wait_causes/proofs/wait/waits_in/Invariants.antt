use Rattle.wait_causes.specs.Origins.{cause_of}
use Rattle.wait_causes.specs.Waits.{AreBegun}
use Rattle.wait_causes.proofs.wait.waits_in.Given as goal

abbrev pub invariant-loop-more : goal.invariant-loop-more
invariant-loop-more l = AreBegun (cause_of l.origin l.device) l.arrival l.more l.waits.items l.wait
