-- why a note isn't taken
use Rattle.std.specs.Prelude.{ℕ, ◌+◌, Bool, false, not, nat_le, nat_lt, if◌then◌else◌, List, [], ◌∷◌, length, Option, None, Some, is_some}
use Rattle.cam_types.specs.declared.limits.TheConstants.{MAX_PRIORITY}
use Rattle.capture_windows.specs.declared.attempt.Attempt.{Attempt}
use Rattle.recorder.specs.declared.notes.TheConstants.{SLACK}
use Rattle.recorder.specs.declared.note_fault.NoteFault.{NoteFault}
use Rattle.recorder.specs.declared.note_fault.NoteFault.TheVariants.{NoDevice, NoDriver, NoPriority, TimeFalls, AlreadyOpen, Full, NotOpen, AlreadyStarted, NotStarted, StartBeforeArrival, DoneBeforeStart}
use Rattle.recorder.specs.Notes.{Noted, open_request}

-- of conditions in order, the fault of the first that holds
abbrev pub first_fault : List (Bool × NoteFault) → Option NoteFault
first_fault [] = None
first_fault (c ∷ rest) = if c.0 then Some c.1 else first_fault rest

-- ---- conditions

-- a time lies more than a second before the latest one
abbrev pub falls : ℕ → Noted → Bool
falls time n = nat_lt (time + SLACK) n.time

-- there is an open request, and it passes a test
abbrev pub passes : (Attempt → Bool) → Option Attempt → Bool
passes test None = false
passes test (Some a) = test a

abbrev pub is_started : Attempt → Bool
is_started a = is_some a.request.started

abbrev pub arrives_after : ℕ → Attempt → Bool
arrives_after time a = nat_lt time a.request.arrival

abbrev pub is_after : ℕ → Option ℕ → Bool
is_after time None = false
is_after time (Some s) = nat_lt time s

abbrev pub starts_after : ℕ → Attempt → Bool
starts_after time a = is_after time a.request.started

-- ---- faults of each note

abbrev pub arrival_fault : ℕ → ℕ → ℕ → ℕ → ℕ → Noted → Option NoteFault
arrival_fault id device driver priority time n = first_fault (
    (nat_le n.devices device, NoDevice) ∷ (nat_le n.drivers driver, NoDriver) ∷ (nat_lt MAX_PRIORITY priority, NoPriority) ∷ (falls time n, TimeFalls)
    ∷ (is_some (open_request id n.notes), AlreadyOpen) ∷ (nat_le n.room (length n.notes), Full) ∷ [])

abbrev pub start_fault : ℕ → ℕ → Noted → Option NoteFault
start_fault id time n = first_fault (
    (falls time n, TimeFalls) ∷ (not (is_some (open_request id n.notes)), NotOpen) ∷ (passes is_started (open_request id n.notes), AlreadyStarted)
    ∷ (passes (arrives_after time) (open_request id n.notes), StartBeforeArrival) ∷ [])

abbrev pub done_fault : ℕ → ℕ → Noted → Option NoteFault
done_fault id time n = first_fault (
    (falls time n, TimeFalls) ∷ (not (is_some (open_request id n.notes)), NotOpen) ∷ (not (passes is_started (open_request id n.notes)), NotStarted)
    ∷ (passes (starts_after time) (open_request id n.notes), DoneBeforeStart) ∷ [])

abbrev pub cancel_fault : ℕ → Noted → Option NoteFault
cancel_fault id n = first_fault (
    (not (is_some (open_request id n.notes)), NotOpen) ∷ (passes is_started (open_request id n.notes), AlreadyStarted) ∷ [])
