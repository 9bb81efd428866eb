-- the first waits of a stay, and how many there are after them
use Rattle.std.specs.Prelude.{◌≡◌, ℕ, ◌+◌, ◌-◌, ◌==◌, ◌<◌, ◌≤◌, Bool, true, not, ◌||◌, if◌then◌else◌, length, count_by, get_or}
use Rattle.std.specs.List.{range_with_len}
use Rattle.wait_causes.specs.Words.{is_cause, WaitCause}
use Rattle.wait_causes.specs.Origins.{Origin, cause_of, instance_in}
use Rattle.wait_causes.specs.Stays.{ExplainedStay}
use Rattle.wait_causes.specs.Waits.{AreWaits}
pub use Rattle.wait_causes.specs.declared.cause_runs.CauseRuns.{CauseRuns}
pub use Rattle.wait_causes.specs.declared.cause_runs.DeviceRuns.{DeviceRuns}
pub use Rattle.wait_causes.specs.declared.first_waits.FirstWaits.{FirstWaits}

-- a round has another cause than the one before it
abbrev pub has_changed : (ℕ → WaitCause) → ℕ → Bool
has_changed cause r = not (is_cause (cause (r - 1)) (cause r))

-- 1 if it holds, and 0 else
abbrev pub one_if : Bool → ℕ
one_if b = if b then 1 else 0

-- a wait begins in a round: in the first one, and where the cause has changed
abbrev pub begins_in : (ℕ → WaitCause) → ℕ → ℕ → Bool
begins_in cause first r = (r == first) || has_changed cause r

-- how many waits that many rounds from a first one on make
abbrev pub waits_from : (ℕ → WaitCause) → ℕ → ℕ → ℕ
waits_from cause first n = count_by (begins_in cause first) (range_with_len first n)

-- Of the rounds from the arrival to the one before the send: the listed waits are those of the rounds before `next`, each of
-- them whole; there are at most so many, and fewer only if there are no more; and how many follow them is given.
pub record AreFirstWaits (cause : ℕ → WaitCause) (arrival live most : ℕ) (w : FirstWaits) : Type 0 where
  pub listed : AreWaits cause (range_with_len arrival (w.next - arrival)) w.listed.items
  pub few : length w.listed.items ≤ most
  pub from : arrival ≤ w.next
  pub all : w.next < live → length w.listed.items ≡ most
  pub whole : w.next < live → begins_in cause arrival w.next ≡ true
  pub more : w.more ≡ waits_from cause w.next (live - w.next)

abbrev pub AreFirstWaitsOf : Origin → ExplainedStay → ℕ → FirstWaits → Type 0
AreFirstWaitsOf o s most w = AreFirstWaits (cause_of o s.device) s.arrival s.live most w

-- the last of the rounds in a row, from this one on, that have one cause
pub record IsLast (cause : ℕ → WaitCause) (rounds r last : ℕ) : Type 0 where
  pub from : r ≤ last
  pub within : last ≤ rounds
  pub same : (k : ℕ) → r ≤ k → k ≤ last → cause k ≡ cause r
  pub ends : last < rounds → has_changed cause (last + 1) ≡ true

-- for each round of a device where its run ends, and in how many rounds up to it the cause had changed
pub record AreRuns (cause : ℕ → WaitCause) (rounds : ℕ) (runs : DeviceRuns) : Type 0 where
  pub all_lasts : length runs.lasts.items ≡ rounds
  pub all_changes : length runs.changes.items ≡ rounds
  pub lasts : (k : ℕ) → k < rounds → IsLast cause rounds (k + 1) (get_or runs.lasts.items k 0)
  pub changes : (k : ℕ) → k < rounds → get_or runs.changes.items k 0 ≡ count_by (has_changed cause) (range_with_len 2 k)

-- those of each device, and how many devices and rounds there are
pub record AreRunsOf (o : Origin) (runs : CauseRuns) : Type 0 where
  pub count : runs.count ≡ (instance_in o).devices
  pub rounds : runs.rounds ≡ (instance_in o).rounds
  pub all : length runs.devices.items ≡ (instance_in o).devices
  pub each : (d : ℕ) (x : DeviceRuns) → d < (instance_in o).devices → AreRuns (cause_of o d) (instance_in o).rounds (get_or runs.devices.items d x)
