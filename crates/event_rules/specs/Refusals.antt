-- why an event is refused
use Rattle.std.specs.Prelude.{ℕ, ◌+◌, ◌==◌, Bool, not, ◌&&◌, nat_lt, nat_le, if◌then◌else◌, List, [], ◌∷◌, length, Option, Some, None}
use Rattle.std.specs.Option.{option_map_or}
use Rattle.cam_types.specs.Lists.{first_answer}
use Rattle.cam_types.specs.Topology.{Topology, are_openings}
use Rattle.cam_types.specs.declared.outcome.Outcome.{Outcome}
use Rattle.cam_types.specs.declared.limits.TheConstants.{MAX_PRIORITY, MAX_RETRIES, MAX_FREEZES}
use Rattle.sense_class.specs.Classes.{status_of}
use Rattle.event_rules.specs.Event.{is_some_and, Event, Submit, Send, Done, Requeue, Finish, FreezeDev, ReleaseDev, FreezeSim, ReleaseSim, Adjust, Tick}
use Rattle.event_rules.specs.Counts.{round, submission, alive, is_in_flight, has_in_flight, is_recovering, wants_requeue, wants_finish, caller_count, freeze_count, adapter_freezes, Submission}
use Rattle.event_rules.specs.Stays.{stays_begun, has_queued, Passage}
use Rattle.cam_types.specs.Questions.{names_device, names_adapter, names_lane, is_on, lane_adapter}
use Rattle.event_rules.specs.Head.{has_opening, adapter_has_opening, link_has_opening, next}
use Rattle.event_rules.specs.Legal.{Rules, names_ccb, is_count}
pub use Rattle.event_rules.specs.declared.refusal.Refusal.{Refusal}
pub use Rattle.event_rules.specs.declared.refusal.Refusal.TheVariants.{HistoryFull, NoDevice, NoAdapter, NoLane, NoCcb, BadPriority, BadRetries, BadCount, BadOpenings, BadStatus, CcbFull, StaysFull, NotQueued, WrongLane, DeviceFrozen, AdapterFrozen, NoOpening, NotHead, NotInFlight, NotRecovering, WrongDecision, FreezeOverflow, ReleaseTooMany, InFlight, RoundsFull}

-- the CCB's device, and 0 where there is no such CCB
abbrev pub device_of : List Event → ℕ → ℕ
device_of before ccb = option_map_or (λ (s : Submission). s.device) (submission before ccb) 0

-- as many CCBs are alive as the rules allow
abbrev pub are_ccbs_full : Rules → List Event → Bool
are_ccbs_full rules before = is_some_and (λ most. nat_le most (alive before)) rules.ccbs

-- as many stays have begun as the rules allow
abbrev pub are_stays_full : Rules → List Event → Bool
are_stays_full rules before = nat_le rules.stays (length (stays_begun before))

-- an opening is left at the device, at the adapter, and at its link
abbrev pub have_openings : Topology → List Event → ℕ → ℕ → Bool
have_openings c before d a = has_opening c before d && adapter_has_opening c before a && link_has_opening c before a

-- the adapter's next stay is another CCB's
abbrev pub is_other_next : Topology → List Event → ℕ → ℕ → Bool
is_other_next c before a ccb = is_some_and (λ (p : Passage). not (p.ccb == ccb)) (next c before a)

-- Each cause that may refuse an event of a kind stands beside its name, in the order of testing.

abbrev pub submit_causes : Rules → Topology → List Event → ℕ → ℕ → ℕ → List (Bool × Refusal)
submit_causes rules c before device priority retries =
    (not (names_device c device), NoDevice)
    ∷ (nat_lt MAX_PRIORITY priority, BadPriority)
    ∷ (nat_lt MAX_RETRIES retries, BadRetries)
    ∷ (are_ccbs_full rules before, CcbFull)
    ∷ (are_stays_full rules before, StaysFull)
    ∷ []

-- of a send of a CCB of the device by a lane of the adapter, where it may not be that CCB's turn
abbrev pub turn_causes : Topology → List Event → ℕ → ℕ → ℕ → List (Bool × Refusal)
turn_causes c before d a ccb =
    (not (is_on c a d), WrongLane)
    ∷ (not (freeze_count before d == 0), DeviceFrozen)
    ∷ (not (adapter_freezes before a == 0), AdapterFrozen)
    ∷ (not (have_openings c before d a), NoOpening)
    ∷ (is_other_next c before a ccb, NotHead)
    ∷ []

abbrev pub send_causes : Topology → List Event → ℕ → ℕ → List (Bool × Refusal)
send_causes c before lane ccb =
    (not (names_lane c lane), NoLane)
    ∷ (not (names_ccb before ccb), NoCcb)
    ∷ (not (has_queued before ccb), NotQueued)
    ∷ turn_causes c before (device_of before ccb) (lane_adapter c lane) ccb

abbrev pub done_causes : List Event → ℕ → Outcome → List (Bool × Refusal)
done_causes before ccb outcome =
    (not (names_ccb before ccb), NoCcb)
    ∷ (status_of outcome == 0, BadStatus)
    ∷ (not (is_in_flight before ccb), NotInFlight)
    ∷ []

abbrev pub requeue_causes : Rules → List Event → ℕ → List (Bool × Refusal)
requeue_causes rules before ccb =
    (not (names_ccb before ccb), NoCcb)
    ∷ (are_stays_full rules before, StaysFull)
    ∷ (not (is_recovering before ccb), NotRecovering)
    ∷ (not (wants_requeue before ccb), WrongDecision)
    ∷ []

abbrev pub finish_causes : List Event → ℕ → List (Bool × Refusal)
finish_causes before ccb =
    (not (names_ccb before ccb), NoCcb)
    ∷ (not (is_recovering before ccb), NotRecovering)
    ∷ (not (wants_finish before ccb), WrongDecision)
    ∷ []

abbrev pub freeze_dev_causes : Topology → List Event → ℕ → ℕ → List (Bool × Refusal)
freeze_dev_causes c before device count =
    (not (names_device c device), NoDevice)
    ∷ (not (is_count count), BadCount)
    ∷ (nat_lt MAX_FREEZES (caller_count before device + count), FreezeOverflow)
    ∷ []

abbrev pub release_dev_causes : Topology → List Event → ℕ → ℕ → List (Bool × Refusal)
release_dev_causes c before device count =
    (not (names_device c device), NoDevice)
    ∷ (not (is_count count), BadCount)
    ∷ (nat_lt (caller_count before device) count, ReleaseTooMany)
    ∷ []

abbrev pub freeze_sim_causes : Topology → List Event → ℕ → ℕ → List (Bool × Refusal)
freeze_sim_causes c before sim count =
    (not (names_adapter c sim), NoAdapter)
    ∷ (not (is_count count), BadCount)
    ∷ (nat_lt MAX_FREEZES (adapter_freezes before sim + count), FreezeOverflow)
    ∷ []

abbrev pub release_sim_causes : Topology → List Event → ℕ → List (Bool × Refusal)
release_sim_causes c before sim =
    (not (names_adapter c sim), NoAdapter)
    ∷ (nat_lt (adapter_freezes before sim) 1, ReleaseTooMany)
    ∷ []

abbrev pub adjust_causes : Topology → ℕ → ℕ → List (Bool × Refusal)
adjust_causes c device openings =
    (not (names_device c device), NoDevice)
    ∷ (not (are_openings openings), BadOpenings)
    ∷ []

abbrev pub tick_causes : Rules → List Event → List (Bool × Refusal)
tick_causes rules before =
    (has_in_flight before, InFlight)
    ∷ (nat_le rules.rounds (round before), RoundsFull)
    ∷ []

-- the causes that may refuse an event after the events before it
abbrev pub causes : Rules → Topology → List Event → Event → List (Bool × Refusal)
causes rules c before (Submit driver device priority retries flags) = submit_causes rules c before device priority retries
causes rules c before (Send lane ccb) = send_causes c before lane ccb
causes rules c before (Done ccb outcome) = done_causes before ccb outcome
causes rules c before (Requeue ccb) = requeue_causes rules before ccb
causes rules c before (Finish ccb) = finish_causes before ccb
causes rules c before (FreezeDev device count) = freeze_dev_causes c before device count
causes rules c before (ReleaseDev device count) = release_dev_causes c before device count
causes rules c before (FreezeSim sim count) = freeze_sim_causes c before sim count
causes rules c before (ReleaseSim sim) = release_sim_causes c before sim
causes rules c before (Adjust device openings) = adjust_causes c device openings
causes rules c before Tick = tick_causes rules before

-- the name, where the cause holds
abbrev pub named : Bool × Refusal → Option Refusal
named m = if m.0 then Some m.1 else None

-- the first of these causes that holds
abbrev pub first_cause : List (Bool × Refusal) → Option Refusal
first_cause ms = first_answer named ms

-- why an event is refused after the events before it: the first cause that holds
unfoldable pub refusal : Rules → Topology → List Event → Event → Option Refusal
refusal rules c before event =
    first_cause ((nat_le rules.events (length before), HistoryFull (length before)) ∷ causes rules c before event)
