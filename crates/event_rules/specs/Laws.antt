-- what holds of all legal events
use Rattle.std.specs.Prelude.{◌≡◌, ℕ, ◌≤◌, ◌==◌, Bool, true, false, ◌&&◌, nat_le, List, ◌∷◌, ◌++◌, length, Option, filter, is_none, IsTrue, IfSome, option_map}
use Rattle.std.specs.List.{list_all}
use Rattle.cam_types.specs.Lists.{prefixed}
use Rattle.cam_types.specs.Topology.{Topology}
use Rattle.sense_class.specs.Classes.{classify}
use Rattle.sense_class.specs.declared.class.Class as class
use Rattle.sense_class.specs.declared.class.Class.TheVariants.{CountedRequeue}
use Rattle.event_rules.specs.Event.{is_some_and, is_requeue_of, Event, Send}
use Rattle.event_rules.specs.Stays.{stays_begun, Passage}
use Rattle.event_rules.specs.Counts.{round, submission, alive, last_result, is_counted_requeue, counted_requeues, retries_of, freeze_count, adapter_freezes, Submission}
use Rattle.cam_types.specs.Questions.{names_device, names_lane, is_on, lane_adapter}
use Rattle.cam_types.specs.declared.limits.TheConstants.{MAX_PRIORITY, MAX_RETRIES}
use Rattle.event_rules.specs.Legal.{Rules, history_rules, IsWithinHistory, names_ccb, is_legal_event, is_legal}
use Rattle.event_rules.specs.Refusals.{device_of, have_openings, refusal}

-- What each kind of event asks and the causes that refuse it say the same.
abbrev pub LegalIsUnrefused : Type 0
LegalIsUnrefused =
    (rules : Rules) (c : Topology) (before : List Event) (event : Event)
    → is_legal_event rules c (before, event) ≡ is_none (refusal rules c before event)

-- the device is on the adapter, neither is frozen, and both have an opening left, as has the link of the adapter, if it is on one
abbrev pub are_free : Topology → List Event → ℕ → ℕ → Bool
are_free c before d a =
    is_on c a d && (freeze_count before d == 0) && (adapter_freezes before a == 0) && have_openings c before d a

-- a send names a lane and a CCB, whose adapter and device are free at its place
abbrev pub stands_free : Topology → List Event × Event → Bool
stands_free c (before, Send lane ccb) =
    names_lane c lane && names_ccb before ccb && are_free c before (device_of before ccb) (lane_adapter c lane)
stands_free c (before, _) = true

-- Each send of a legal list stands where its device and adapter are free.
abbrev pub SendsStandFree : Type 0
SendsStandFree =
    (rules : Rules) (c : Topology) (events : List Event)
    → IsTrue (is_legal rules c events) → IsTrue (list_all (stands_free c) (prefixed events))

-- the class of the CCB's last result
abbrev pub last_class : List Event → ℕ → Option class.Class
last_class before ccb =
    option_map (λ o. classify o (counted_requeues before ccb) (retries_of before ccb)) (last_result before ccb)

abbrev pub is_counted_class : class.Class → Bool
is_counted_class CountedRequeue = true
is_counted_class _ = false

-- a requeue of the CCB after a result of the class that counts as a retry
abbrev pub is_requeue_by_class : ℕ → List Event × Event → Bool
is_requeue_by_class ccb (before, event) =
    is_requeue_of ccb event && is_some_and is_counted_class (last_class before ccb)

-- The requeues of a legal list that are counted are those after a result whose class counts as a retry.
abbrev pub RequeuesCountByClass : Type 0
RequeuesCountByClass =
    (rules : Rules) (c : Topology) (events : List Event) (ccb : ℕ)
    → IsTrue (is_legal rules c events)
    → filter (is_counted_requeue ccb) (prefixed events) ≡ filter (is_requeue_by_class ccb) (prefixed events)

-- A list that is legal by rules that go no further than a history's is legal by a history's.
abbrev pub NarrowerIsLegal : Type 0
NarrowerIsLegal =
    (rules : Rules) (c : Topology) (events : List Event)
    → IsWithinHistory rules → IsTrue (is_legal rules c events) → IsTrue (is_legal history_rules c events)

-- it names a device, and its priority and retries are within their ranges
abbrev pub is_in_range : Topology → Submission → Bool
is_in_range c s = names_device c s.device && nat_le s.priority MAX_PRIORITY && nat_le s.retries MAX_RETRIES

-- the stay is of a CCB that was submitted with its device and priority
abbrev pub is_stay_of : Passage → Submission → Bool
is_stay_of p s = (s.device == p.device) && (s.priority == p.priority)

-- the stay's CCB was submitted, in range, with the stay's device and priority
abbrev pub is_stay_in_range : Topology → List Event → Passage → Bool
is_stay_in_range c events p =
    is_some_and (λ (s : Submission). is_in_range c s && is_stay_of p s) (submission events p.ccb)

-- Each stay of a legal list is of a CCB that was submitted in range, with its device and priority.
abbrev pub StaysAreInRange : Type 0
StaysAreInRange =
    (rules : Rules) (c : Topology) (events : List Event)
    → IsTrue (is_legal rules c events) → IsTrue (list_all (is_stay_in_range c events) (stays_begun events))

-- as many events, rounds and stays, and CCBs alive where they are counted, as the rules allow at the most
pub record IsWithinRules (rules : Rules) (events : List Event) : Type 0 where
  pub few_events : length events ≤ rules.events
  pub few_rounds : round events ≤ rules.rounds
  pub few_stays : length (stays_begun events) ≤ rules.stays
  pub few_alive : IfSome rules.ccbs (λ most. alive events ≤ most)

-- Legal events go no further than their rules, which allow a round.
abbrev pub LegalIsWithin : Type 0
LegalIsWithin =
    (rules : Rules) (c : Topology) (events : List Event)
    → 1 ≤ rules.rounds → IsTrue (is_legal rules c events) → IsWithinRules rules events

-- Each event of a legal list is legal after those before it.
abbrev pub EachIsLegal : Type 0
EachIsLegal =
    (rules : Rules) (c : Topology) (before : List Event) (event : Event) (behind : List Event)
    → IsTrue (is_legal rules c (before ++ event ∷ behind)) → IsTrue (is_legal_event rules c (before, event))
