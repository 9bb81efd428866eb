use Rattle.wait_causes.proofs.WayLemmas.{ArePutBelow}
use Rattle.wait_causes.proofs.blame.in_way.note.Given as goal

abbrev pub invariant-loop-before : goal.invariant-loop-before
invariant-loop-before l = ArePutBelow l.explanation.origin l.device l.stay l.before l.fn.ways l.ways
