-- what a fresh transport takes so that it goes on where another one ends
use Rattle.std.specs.Prelude.{◌≡◌, ℕ, ◌-◌, ◌==◌, Bool, if◌then◌else◌, List, [], ◌∷◌, ◌++◌, filter_map, Option, Some, None, option_map, ⊤}
use Rattle.std.specs.List.{list_any}
use Rattle.std.specs.Option.{option_or}
use Rattle.cam_types.specs.Lists.{prefixed, first_answer}
use Rattle.cam_types.specs.Questions.{device_openings, devices}
use Rattle.cam_types.specs.Topology.{Topology}
use Rattle.event_rules.specs.Counts.{ccbs, submission, has_in_flight, is_recovering, counted_requeues, caller_count, adapter_freezes}
use Rattle.event_rules.specs.Legal.{Rules}
use Rattle.event_rules.specs.Refusals.{refusal}
use Rattle.event_rules.specs.Sorted.{sorted_by}
use Rattle.event_rules.specs.Stays.{waiting, queue_key}
use Rattle.xpt_core.specs.Device.{next_openings}
use Rattle.xpt_core.specs.Known.{adapters}
pub use Rattle.xpt_carry.specs.declared.fault.CarryFault.{CarryFault}
pub use Rattle.xpt_carry.specs.declared.fault.CarryFault.TheVariants.{InFlight, Undecided, Refused, OutOfMemory}
use Rattle.event_rules.specs.declared.submission.Submission.{Submission}
use Rattle.event_rules.specs.declared.event.Event.{Event}
use Rattle.event_rules.specs.declared.refusal.Refusal.{Refusal}
use Rattle.event_rules.specs.declared.passage.Passage.{Passage}
use Rattle.event_rules.specs.declared.event.Event.TheVariants.{Submit, FreezeDev, FreezeSim, Adjust, Tick}

-- what is left of a CCB: what was submitted, with the retries that no requeue has used
unfoldable pub left_of : List Event → ℕ → Option Submission
left_of events ccb =
    option_map (λ (s : Submission). record s { retries = s.retries - counted_requeues events ccb }) (submission events ccb)

-- the event that submits it
abbrev pub submit : Submission → Event
submit s = Submit s.driver s.device s.priority s.retries s.flags

-- the submit of what is left of a stay's CCB
unfoldable pub submit_of : List Event → Passage → Option Event
submit_of events p = option_map submit (left_of events p.ccb)

-- all stays without a send, in the order of the queues
unfoldable pub carried : List Event → List Passage
carried events = sorted_by queue_key (waiting events)

-- the device's openings of the next round, where they aren't those of the configuration
unfoldable pub adjust_of : Topology → List Event → ℕ → Option Event
adjust_of c events d =
    if next_openings c events d == device_openings c d then None else Some (Adjust d (next_openings c events d))

-- the callers' freezes of a device, where there are some
unfoldable pub device_freeze : List Event → ℕ → Option Event
device_freeze events d = if caller_count events d == 0 then None else Some (FreezeDev d (caller_count events d))

-- the same of an adapter
unfoldable pub adapter_freeze : List Event → ℕ → Option Event
adapter_freeze events a = if adapter_freezes events a == 0 then None else Some (FreezeSim a (adapter_freezes events a))

-- openings, a tick after which they hold, freezes of devices, freezes of adapters, and a submit for each stay
unfoldable pub carrying : Topology → List Event → List Event
carrying c events =
    filter_map (adjust_of c events) (devices c) ++ Tick ∷ [] ++ filter_map (device_freeze events) (devices c)
    ++ filter_map (adapter_freeze events) (adapters c) ++ filter_map (submit_of events) (carried events)

-- a CCB waits for a decision on its error
unfoldable pub has_case : List Event → Bool
has_case events = list_any (is_recovering events) (ccbs events)

-- why the round isn't at its end
unfoldable pub unsettled : List Event → Option CarryFault
unsettled events = if has_in_flight events then Some InFlight else if has_case events then Some Undecided else None

-- why an event is refused after those before it
abbrev pub refusal_at : Rules → Topology → List Event × Event → Option Refusal
refusal_at rules c m = refusal rules c m.0 m.1

-- why the first of them is refused that is, each after those before it
unfoldable pub first_refusal : Rules → Topology → List Event → Option Refusal
first_refusal rules c events = first_answer (refusal_at rules c) (prefixed events)

-- why the events aren't carried over to a transport with these rules: the round isn't at its end, or it refuses an event
abbrev pub carry_fault : Rules → Topology → List Event → Option CarryFault
carry_fault rules c events = option_or (unsettled events) (option_map Refused (first_refusal rules c (carrying c events)))

-- A fault is the one that is known. Memory may run out in any case.
abbrev pub IsFault : Option CarryFault → CarryFault → Type 0
IsFault known OutOfMemory = ⊤
IsFault known fault = known ≡ Some fault
