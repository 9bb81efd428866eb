use Rattle.wait_causes.proofs.BlameTotalLemmas.{AreCounts}
use Rattle.wait_causes.proofs.blame.totals.counts_of.Given as goal

abbrev pub invariant-loop-number : goal.invariant-loop-number
invariant-loop-number l = AreCounts l.by l.list l.number-index l.counts.items l.so_far
