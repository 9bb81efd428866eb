use Rattle.std.proofs.Common.{◌≡◌, ℕ, ◌+◌, ◌<◌, ◌≤◌, length, get_or}
use Rattle.wait_causes.specs.Origins.{cause_of}
use Rattle.wait_causes.specs.FirstWaits.{IsLast}
use Rattle.wait_causes.proofs.cause_runs.lasts_of.Given as goal

-- the rounds from this many before the end on have theirs
abbrev pub invariant-loop-after : goal.invariant-loop-after
invariant-loop-after l = (length l.lasts.items ≡ l.rounds) × ((k : ℕ) → k < l.rounds → l.rounds ≤ k + l.after → IsLast (cause_of l.origin l.device) l.rounds (k + 1) (get_or l.lasts.items k 0))
