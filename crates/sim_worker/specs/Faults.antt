-- the fault of a run on many threads that isn't called one of its script
use Rattle.std.specs.Prelude.{◌≡◌, ℕ, ◌+◌, ◌-◌, ◌<◌, ◌⊎◌, List, [], length, map, take, Some, slice_get}
use Rattle.sim_worker.specs.Words.{AreInterleaved, Event, Scenario, Held, IsPast, Past, Receipt, due_of}
use Rattle.xpt_lock.specs.Gathers.{IsMisfit, IsUnnamed}
use Rattle.xpt_lock.specs.Receipts.{all_receipts, naming}
use Rattle.sim_worker.specs.Endings.{Ending}
use Rattle.sim_worker.specs.LiveRuns.{EachLog, IsLiveEnding, IsLog, actors, is_full}
use Rattle.sim_worker.specs.Ports.{Served}
use Rattle.sim_worker.specs.Walks.{IsFollowed, IsFollowedTo}
use Rattle.xpt_lock.specs.declared.fault.GatherFault.{GatherFault}
use Rattle.xpt_lock.specs.declared.fault.GatherFault.TheVariants as gathers
pub use Rattle.sim_worker.specs.declared.fault.LiveFault.{LiveFault}
pub use Rattle.sim_worker.specs.declared.fault.LiveFault.TheVariants.{Mismatch, Unnamed, NoThread, OutOfMemory}

-- the receipt is one of the logs'
abbrev pub IsOfLogs : List Held → Receipt → Type 0
IsOfLogs logs r = (i j : ℕ) × (h : Held) × (slice_get logs i ≡ Some h) × (slice_get h.receipts j ≡ Some r)

-- the fault has the receipt that names the place; if no receipt does, it is that of place 0
abbrev pub IsNaming : List Held → ℕ → LiveFault → Type 0
IsNaming logs place (Mismatch r) = (r.at ≡ place) × IsOfLogs logs r
IsNaming logs place (Unnamed first) = (first ≡ 0) × (naming place (all_receipts logs) ≡ 0)
IsNaming logs place NoThread = ⊥
IsNaming logs place OutOfMemory = ⊥

-- all before the place went by the script, and the event there didn't
pub record IsFirstUnfit (s : Scenario) (events : List Event) (logs : List Held) (place : ℕ) : Type 0 where
  pub there : place < length events
  pub before : IsFollowedTo s (take place events) logs
  pub not_here : ¬ IsFollowedTo s (take (place + 1) events) logs

-- all went by the script, but no ending fits
pub record IsUnended (s : Scenario) (events : List Event) (logs : List Held) : Type 0 where
  pub whole : IsFollowedTo s events logs
  pub not_over : (stated : Ending) → ¬ IsLiveEnding s events logs stated

-- The place is that of the first event that didn't go by the script. If all did, it is that of the last, and no ending fits.
abbrev pub IsStop : Scenario → List Event → List Held → ℕ → Type 0
IsStop s events logs place = IsFirstUnfit s events logs place ⊎ ((place ≡ length events - 1) × IsUnended s events logs)

-- All went by the script to an ending that fits, but some log isn't what its actor did.
pub record IsUnserved (s : Scenario) (events : List Event) (logs : List Held) (served : List (List Served)) : Type 0 where
  pub stated : Ending
  pub followed : IsFollowed s events logs stated
  pub not_served : ¬ EachLog (λ log. IsLog s events served (is_full stated) log.name log) logs

-- the history is of the script's configuration, and the logs are its actors'
abbrev pub AreOfScript : Scenario → Past → List Held → Type 0
AreOfScript s h logs = (h.config ≡ s.config) × (map (λ (log : Held). log.name) logs ≡ actors s)

-- The comparison fails as a whole: of another configuration or of other actors, or some log isn't what its actor did.
abbrev pub IsUnlike : Scenario → Past → List Held → List (List Served) → Type 0
IsUnlike s h logs served = (¬ AreOfScript s h logs) ⊎ IsUnserved s h.events logs served

-- The place is where the comparison fails. If it fails as a whole, that is the place of the last event.
abbrev pub IsFailing : Scenario → Past → List Held → List (List Served) → ℕ → Type 0
IsFailing s h logs served place = IsStop s h.events logs place ⊎ ((place ≡ length h.events - 1) × IsUnlike s h logs served)

-- Memory ran out; or the fault has the receipt of where the comparison fails, and place 0 if nothing happened.
abbrev pub IsNoRun : Scenario → Past → List Held → List (List Served) → LiveFault → Type 0
IsNoRun s h logs served OutOfMemory = Unit {0}
IsNoRun s h logs served (Mismatch r) = IsOfLogs logs r × IsFailing s h logs served r.at
IsNoRun s h logs served (Unnamed first) = (first ≡ 0) × (h.events ≡ []) × IsFailing s h logs served 0
IsNoRun s h logs served NoThread = ⊥

-- the fault says where the receipts of the logs aren't those that one thread would get for the history
abbrev pub IsUngathered : Past → List Held → LiveFault → Type 0
IsUngathered h logs (Mismatch r) = IsMisfit (due_of h) logs r
IsUngathered h logs (Unnamed place) = IsUnnamed (due_of h) logs place
IsUngathered h logs NoThread = ⊥
IsUngathered h logs OutOfMemory = ⊥

-- Of some legal history, logs and what ports served: the logs aren't gathered to it; or they are, and it is no run of the script.
pub record IsFailed (s : Scenario) (fault : LiveFault) : Type 0 where
  pub history : Past
  pub logs : List Held
  pub served : List (List Served)
  pub past : IsPast history
  pub why : IsUngathered history logs fault ⊎ (AreInterleaved (due_of history) logs × IsNoRun s history logs served fault)

-- why what the threads did is no run, once they have ended: memory ran out, or a comparison failed
abbrev pub IsUnjudged : Scenario → LiveFault → Type 0
IsUnjudged s OutOfMemory = Unit {0}
IsUnjudged s NoThread = ⊥
IsUnjudged s (Mismatch r) = IsFailed s (Mismatch r)
IsUnjudged s (Unnamed place) = IsFailed s (Unnamed place)

-- Why there is no run: memory ran out, or a thread couldn't be started; else the fault has the receipt or the place at which a
-- comparison failed, or place 0 if a seat was missing.
abbrev pub IsLiveFault : Scenario → LiveFault → Type 0
IsLiveFault s OutOfMemory = Unit {0}
IsLiveFault s NoThread = Unit {0}
IsLiveFault s (Mismatch r) = IsFailed s (Mismatch r)
IsLiveFault s (Unnamed place) = (place ≡ 0) ⊎ IsFailed s (Unnamed place)

-- no seat for each actor: memory ran out, or a seat was missing
abbrev pub IsSeatless : LiveFault → Type 0
IsSeatless (Unnamed place) = place ≡ 0
IsSeatless OutOfMemory = Unit {0}
IsSeatless _ = ⊥

-- a thread couldn't be started, or memory ran out
abbrev pub IsUnstarted : LiveFault → Type 0
IsUnstarted NoThread = Unit {0}
IsUnstarted OutOfMemory = Unit {0}
IsUnstarted _ = ⊥

-- what a run says of receipts that couldn't be gathered
abbrev pub as_live : GatherFault → LiveFault
as_live (gathers.Mismatch r) = Mismatch r
as_live (gathers.Unnamed place) = Unnamed place
as_live gathers.OutOfMemory = OutOfMemory
