use Rattle.std.proofs.Common.{◌-◌, ◌≤◌, length}
use Rattle.wait_causes.specs.Origins.{cause_of}
use Rattle.wait_causes.proofs.FirstWaitsLemmas.{AreFirst}
use Rattle.wait_causes.proofs.first_waits.first_waits.Given as goal

abbrev pub invariant-loop-next : goal.invariant-loop-next
invariant-loop-next l = AreFirst (cause_of l.origin l.device) l.arrival l.live l.next l.listed.items × (length l.listed.items ≤ l.most)

abbrev pub decreases-loop-next : goal.decreases-loop-next
decreases-loop-next l = l.live - l.next
