-- what holds of the cases of all legal events
use Rattle.std.specs.Prelude.{◌≡◌, ◌≢◌, ℕ, ◌<◌, ◌==◌, Bool, true, false, List, [], ◌∷◌, ◌++◌, Option, Some, None, find, reverse, slice_get, if◌then◌else◌, IsTrue, MatchOption}
use Rattle.std.specs.List.{list_any}
use Rattle.std.specs.Option.{option_map_or}
use Rattle.xpt_core.specs.Words.{Topology, Outcome, classify, asks_requeue, asks_finish, is_some_and, is_erring, ccbs, is_recovering, counted_requeues, retries_of, Event, Done, Requeue, Finish, Rules, is_legal_event, is_legal, last_class, refusal, Refusal, HistoryFull, StaysFull}
use Rattle.xpt_core.specs.Ccbs.{is_alive}
use Rattle.xpt_core.specs.Cases.{Failure, failures, cases}

-- There is no first case only where no CCB is recovering, and else the first one is.
abbrev pub FirstCaseRecovers : Type 0
FirstCaseRecovers =
    (rules : Rules) (c : Topology) (events : List Event)
    → IsTrue (is_legal rules c events)
    → MatchOption (slice_get (cases events) 0) (list_any (is_recovering events) (ccbs events) ≡ false) (λ ccb. IsTrue (is_recovering events ccb))

-- the place of the CCB's last completion that erred, and 0 where it has none
unfoldable pub last_failure : List Event → ℕ → ℕ
last_failure events ccb =
    option_map_or (λ (f : Failure). f.place) (find (λ (f : Failure). f.ccb == ccb) (reverse (failures events))) 0

-- The last failure of the first case stands before that of each other CCB that is recovering.
abbrev pub FirstCaseFailedFirst : Type 0
FirstCaseFailedFirst =
    (rules : Rules) (c : Topology) (events : List Event) (ccb other : ℕ)
    → IsTrue (is_legal rules c events) → slice_get (cases events) 0 ≡ Some ccb
    → IsTrue (is_recovering events other) → other ≢ ccb → last_failure events ccb < last_failure events other

-- no refusal, or one for want of room: the events or the stays are as many as there may be
abbrev pub is_for_room : Option Refusal → Bool
is_for_room None = true
is_for_room (Some (HistoryFull n)) = true
is_for_room (Some StaysFull) = true
is_for_room _ = false

-- The decision that the class of a recovering CCB asks for is refused for want of room alone.
abbrev pub AskedDecisionsAreTaken : Type 0
AskedDecisionsAreTaken =
    (rules : Rules) (c : Topology) (events : List Event) (ccb : ℕ)
    → IsTrue (is_legal rules c events) → IsTrue (is_recovering events ccb)
    → (IsTrue (is_some_and asks_requeue (last_class events ccb)) → IsTrue (is_for_room (refusal rules c events (Requeue ccb))))
    × (IsTrue (is_some_and asks_finish (last_class events ccb)) → IsTrue (is_for_room (refusal rules c events (Finish ccb))))

-- After a decision on a CCB it isn't among the cases.
abbrev pub DecisionsEndCases : Type 0
DecisionsEndCases =
    (events : List Event) (ccb : ℕ)
    → (list_any (λ k. k == ccb) (cases (events ++ Requeue ccb ∷ [])) ≡ false)
    × (list_any (λ k. k == ccb) (cases (events ++ Finish ccb ∷ [])) ≡ false)

-- After a completion that errs its CCB is alive, and of the class that the result comes to by the requeues before it.
abbrev pub FailuresAreClassed : Type 0
FailuresAreClassed =
    (rules : Rules) (c : Topology) (events : List Event) (ccb : ℕ) (outcome : Outcome)
    → IsTrue (is_legal rules c events) → IsTrue (is_legal_event rules c (events, Done ccb outcome)) → IsTrue (is_erring (Done ccb outcome))
    → (if is_alive (events ++ Done ccb outcome ∷ []) ccb then last_class (events ++ Done ccb outcome ∷ []) ccb else None)
    ≡ Some (classify outcome (counted_requeues events ccb) (retries_of events ccb))
