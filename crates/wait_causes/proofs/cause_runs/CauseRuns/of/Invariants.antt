use Rattle.std.proofs.Common.{◌≡◌, ℕ, ◌<◌, length, get_or}
use Rattle.wait_causes.specs.Origins.{cause_of}
use Rattle.wait_causes.specs.FirstWaits.{AreRuns, DeviceRuns}
use Rattle.wait_causes.proofs.cause_runs.CauseRuns.of.Given as goal

abbrev pub invariant-loop-device : goal.invariant-loop-device
invariant-loop-device l = (length l.runs.items ≡ l.device) × ((d : ℕ) (x : DeviceRuns) → d < l.device → AreRuns (cause_of l.origin d) l.rounds (get_or l.runs.items d x))
