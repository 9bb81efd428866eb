-- what a transport that goes on has of the one that ended
use Rattle.std.specs.Prelude.{◌≡◌, ℕ, ◌+◌, ◌*◌, ◌≤◌, List, [], ◌∷◌, ◌++◌, length, map, Option, None, false, IsTrue}
use Rattle.cam_types.specs.Bounds.{Bounds}
use Rattle.cam_types.specs.Questions.{names_device, names_adapter}
use Rattle.cam_types.specs.Topology.{Topology}
use Rattle.event_rules.specs.Counts.{ccbs, caller_count, error_count, freeze_count, adapter_freezes}
use Rattle.event_rules.specs.Head.{openings}
use Rattle.event_rules.specs.Legal.{Rules, rules_of, is_legal}
use Rattle.event_rules.specs.Sorted.{sorted_by}
use Rattle.event_rules.specs.Stays.{waiting, queue, queue_key}
use Rattle.xpt_carry.specs.Carry.{left_of, carried, carrying, has_case, first_refusal}
use Rattle.event_rules.specs.declared.submission.Submission.{Submission}
use Rattle.event_rules.specs.declared.event.Event.{Event}
use Rattle.event_rules.specs.declared.passage.Passage.{Passage}
use Rattle.event_rules.specs.declared.event.Event.TheVariants.{Tick}

-- what is left of the CCBs of these stays
abbrev pub left_of_stays : List Event → List Passage → List (Option Submission)
left_of_stays events ps = map (λ (p : Passage). left_of events p.ccb) ps

-- what a device's queue has, the first in front
unfoldable pub commands_in_order : List Event → ℕ → List (Option Submission)
commands_in_order events d = left_of_stays events (sorted_by queue_key (queue events d))

-- The queue of each device has the same commands, in the same order, as the old one's after a tick.
abbrev pub QueuesAreKept : Type 0
QueuesAreKept =
    (c : Topology) (events : List Event) (d : ℕ) → commands_in_order (carrying c events) d ≡ commands_in_order (events ++ Tick ∷ []) d

-- Its CCBs are what is left of those that the stays were of, one by one.
abbrev pub CcbsAreKept : Type 0
CcbsAreKept =
    (c : Topology) (events : List Event)
    → map (left_of (carrying c events)) (ccbs (carrying c events)) ≡ left_of_stays events (carried events)

-- Each device has the openings that the old one's would have after a tick.
abbrev pub OpeningsAreKept : Type 0
OpeningsAreKept =
    (c : Topology) (events : List Event) (d : ℕ)
    → IsTrue (names_device c d) → openings c (carrying c events) d ≡ openings c (events ++ Tick ∷ []) d

-- Each device and adapter has the freezes that its callers had made, and no device has one by an error.
abbrev pub CallersFreezesAreKept : Type 0
CallersFreezesAreKept =
    (c : Topology) (events : List Event) (d : ℕ)
    → IsTrue (names_device c d) → caller_count (carrying c events) d ≡ caller_count events d

abbrev pub AdaptersFreezesAreKept : Type 0
AdaptersFreezesAreKept =
    (c : Topology) (events : List Event) (a : ℕ)
    → IsTrue (names_adapter c a) → adapter_freezes (carrying c events) a ≡ adapter_freezes events a

abbrev pub NoErrorFreezes : Type 0
NoErrorFreezes = (c : Topology) (events : List Event) (d : ℕ) → error_count (carrying c events) d ≡ 0

-- Where no CCB waits for a decision, each device has as many freezes as it had.
abbrev pub FreezesAreKept : Type 0
FreezesAreKept =
    (c : Topology) (events : List Event) (d : ℕ)
    → IsTrue (names_device c d) → has_case events ≡ false → freeze_count (carrying c events) d ≡ freeze_count events d

-- limits with room for what is carried over: a second round, a CCB and a stay for each stay that waits, and all events
pub record HasRoom (limits : Bounds) (c : Topology) (events : List Event) : Type 0 where
  pub two_rounds : 2 ≤ limits.rounds
  pub few_ccbs : length (waiting events) ≤ limits.ccbs
  pub few_stays : length (waiting events) ≤ limits.stays
  pub few_events : length (carrying c events) ≤ limits.events

-- Limits with room refuse nothing of what a transport holds.
abbrev pub RoomIsEnough : Type 0
RoomIsEnough =
    (rules : Rules) (limits : Bounds) (c : Topology) (events : List Event)
    → IsTrue (is_legal rules c events) → HasRoom limits c events → first_refusal (rules_of limits) c (carrying c events) ≡ None

-- At most two events a device, one an adapter, a tick, and one a stay are carried over.
abbrev pub FewEventsAreCarried : Type 0
FewEventsAreCarried =
    (c : Topology) (events : List Event)
    → length (carrying c events) ≤ 2 * length c.devices + length c.adapters + 1 + length (waiting events)
