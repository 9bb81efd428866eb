use Rattle.wait_causes.specs.InTheWay.{NeverAbove}
use Rattle.wait_causes.proofs.blame.in_way.waits_above.Given as goal

abbrev pub invariant-loop-before : goal.invariant-loop-before
invariant-loop-before l = NeverAbove l.explanation.origin l.device l.before
