-- what holds at each place of a legal list
use Rattle.std.proofs.Common.{◌≡◌, ℕ, ◌<◌, ◌≤◌, Bool, true, false, List, [], ◌∷◌, ◌++◌, length, refl, arith, Some, None, not, ◌&&◌, ◌==◌, nat_lt, nat_le, filter, if◌then◌else◌, option_map}
use Rattle.std.specs.List.{list_all}
use Rattle.std.proofs.lemmas.Bool.{and_parts, and_from, eqb-true, ltb-true, lt-ltb}
use Rattle.std.proofs.lemmas.List.Folds.{list_all-append}
use Rattle.cam_types.specs.Lists.{prefixed}
use Rattle.cam_types.specs.Topology.{Topology}
use Rattle.cam_types.proofs.ListLemmas.{prefixed-push}
use Rattle.sense_class.specs.Classes.{kind_of, is_counted, class_of, asks_requeue}
use Rattle.sense_class.specs.declared.class.Kind.{Kind}
use Rattle.sense_class.specs.declared.class.Kind.TheVariants.{Good, Free, Counted, Recovered, Other}
use Rattle.sense_class.specs.declared.class.Class.TheVariants.{CountedRequeue, Fail}
use Rattle.sense_class.specs.declared.class.Why.TheVariants as whys
use Rattle.event_rules.specs.Event.{is_some_and, Event, Submit, Send, Requeue, Tick}
use Rattle.event_rules.specs.Counts.{last_result, is_counted_requeue, counted_requeues, retries_of, wants_requeue, is_recovering, round, has_in_flight}
use Rattle.cam_types.specs.Questions.{names_device, names_lane}
use Rattle.event_rules.specs.Legal.{Rules, history_rules, IsWithinHistory, names_ccb, has_ccb, has_stay, is_next, is_allowed, is_legal_event, is_legal}
use Rattle.cam_types.specs.declared.flags.Flags.{Flags}
use Rattle.cam_types.specs.declared.limits.TheConstants.{MAX_PRIORITY, MAX_RETRIES}
use Rattle.event_rules.specs.Laws.{stands_free, last_class, is_counted_class, is_requeue_by_class}
use Rattle.event_rules.proofs.TestLemmas.{list_all-weaker}
use Rattle.event_rules.proofs.SendLemmas.{send_from_next}

-- one legal event more keeps a list legal
pub legal-push : (rules : Rules) (c : Topology) (events : List Event) (event : Event) → is_legal rules c events ≡ true → is_legal_event rules c (events, event) ≡ true → is_legal rules c (events ++ event ∷ []) ≡ true
unfolding is_legal
legal-push rules c events event legal here = rw (prefixed-push, list_all-append) (and_from _ _ legal (and_from _ _ here refl))

-- the limits that a legal event keeps
pub allowed-legal_event : (rules : Rules) (c : Topology) (before : List Event) (event : Event) → is_legal_event rules c (before, event) ≡ true → (length before < rules.events) × (is_allowed rules c before event ≡ true)
unfolding is_legal_event
allowed-legal_event rules c before event h =
    let parts = and_parts (nat_lt (length before) rules.events) (is_allowed rules c before event) h in
    (ltb-true _ _ parts.0, parts.1)

-- a legal send stands where its device and adapter are free
free_send : (rules : Rules) (c : Topology) (before : List Event) (lane ccb : ℕ) → is_legal_event rules c (before, Send lane ccb) ≡ true → stands_free c (before, Send lane ccb) ≡ true
free_send rules c before lane ccb h =
    let asked = (allowed-legal_event rules c before (Send lane ccb) h).1 in
    let one = and_parts (names_lane c lane && names_ccb before ccb) (is_next c before lane ccb) asked in
    let s = (send_from_next c before lane ccb one.1).sendable in
    and_from _ _ one.0 (and_from _ _ (and_from _ _ (and_from _ _ s.on s.device_free) s.adapter_free) (and_from _ _ (and_from _ _ s.device_opening s.adapter_opening) s.link_opening))

free_legal : (rules : Rules) (c : Topology) (m : List Event × Event) → is_legal_event rules c m ≡ true → stands_free c m ≡ true
free_legal rules c (before, Send lane ccb) h = free_send rules c before lane ccb h
free_legal rules c (before, _) h = refl

pub sends_stand_free : (rules : Rules) (c : Topology) (events : List Event) → is_legal rules c events ≡ true → list_all (stands_free c) (prefixed events) ≡ true
unfolding is_legal
sends_stand_free rules c events h = list_all-weaker (is_legal_event rules c) (stands_free c) (prefixed events) (free_legal rules c) h

-- of a class that asks for a requeue, the result counts where the class does
counted_class : (counted retries : ℕ) (kind : Kind) → asks_requeue (class_of counted retries kind) ≡ true → is_counted kind ≡ is_counted_class (class_of counted retries kind)
counted_class counted retries Good h = refl
counted_class counted retries Free h = refl
counted_class counted retries Counted h = elim (counted == retries) as (λ b. asks_requeue (if b then Fail whys.Spent else CountedRequeue) ≡ true → true ≡ is_counted_class (if b then Fail whys.Spent else CountedRequeue)) [
  | true ↦ λ g. absurd cc
  | false ↦ λ g. refl
] h
counted_class counted retries Recovered h = refl
counted_class counted retries Other h = refl

-- two tests that agree on each element that passes a third keep the same of a list that passes it
filter-same : {X : Type 0} → (l p q : X → Bool) (xs : List X) → ((x : X) → l x ≡ true → p x ≡ q x) → list_all l xs ≡ true → filter p xs ≡ filter q xs
filter-same l p q [] f h = refl
filter-same l p q (x ∷ xs) f h =
    let parts = and_parts (l x) (list_all l xs) h in
    rw (f x parts.0, filter-same l p q xs f parts.1) refl

-- after a result that asks for a requeue, it counts where its class does
last_result-last_class : (before : List Event) (ccb : ℕ) → wants_requeue before ccb ≡ true → is_some_and (λ o. is_counted (kind_of o)) (last_result before ccb) ≡ is_some_and is_counted_class (last_class before ccb)
unfolding wants_requeue
last_result-last_class before ccb h =
    let counted = counted_requeues before ccb in
    let retries = retries_of before ccb in
    elim (last_result before ccb) as (λ o. is_some_and (λ r. asks_requeue (class_of counted retries (kind_of r))) o ≡ true → is_some_and (λ r. is_counted (kind_of r)) o ≡ is_some_and is_counted_class (option_map (λ r. class_of counted retries (kind_of r)) o)) [
      | None ↦ λ g. refl
      | Some r ↦ λ g. counted_class counted retries (kind_of r) g
    ] h

requeue_by_class : (rules : Rules) (c : Topology) (ccb : ℕ) (before : List Event) (n : ℕ) → is_legal_event rules c (before, Requeue n) ≡ true → is_counted_requeue ccb (before, Requeue n) ≡ is_requeue_by_class ccb (before, Requeue n)
requeue_by_class rules c ccb before n h =
    let asked = (allowed-legal_event rules c before (Requeue n) h).1 in
    let wants = (and_parts (names_ccb before n && has_stay rules before && is_recovering before n) (wants_requeue before n) asked).1 in
    elim (n == ccb) as (λ b. (n == ccb) ≡ b → (b && is_some_and (λ o. is_counted (kind_of o)) (last_result before ccb)) ≡ (b && is_some_and is_counted_class (last_class before ccb))) [
      | true ↦ λ e. last_result-last_class before ccb (rw (← eqb-true n ccb e) wants)
      | false ↦ λ e. refl
    ] refl

counted_by_class : (rules : Rules) (c : Topology) (ccb : ℕ) (m : List Event × Event) → is_legal_event rules c m ≡ true → is_counted_requeue ccb m ≡ is_requeue_by_class ccb m
counted_by_class rules c ccb (before, Requeue n) h = requeue_by_class rules c ccb before n h
counted_by_class rules c ccb (before, _) h = refl

pub requeues_count_by_class : (rules : Rules) (c : Topology) (events : List Event) (ccb : ℕ) → is_legal rules c events ≡ true → filter (is_counted_requeue ccb) (prefixed events) ≡ filter (is_requeue_by_class ccb) (prefixed events)
unfolding is_legal
requeues_count_by_class rules c events ccb h = filter-same (is_legal_event rules c) (is_counted_requeue ccb) (is_requeue_by_class ccb) (prefixed events) (counted_by_class rules c ccb) h

-- a lesser limit that is kept keeps a larger one
below_more : (n least most : ℕ) → least ≤ most → nat_lt n least ≡ true → nat_lt n most ≡ true
below_more n least most le h = let lt = ltb-true n least h in lt-ltb n most (omega arith)

-- what narrower rules allow, a history's do
allowed_submit : (rules : Rules) (c : Topology) (before : List Event) (driver device priority retries : ℕ) (flags : Flags) → IsWithinHistory rules → is_allowed rules c before (Submit driver device priority retries flags) ≡ true → is_allowed history_rules c before (Submit driver device priority retries flags) ≡ true
allowed_submit rules c before driver device priority retries flags w h =
    let named = names_device c device && nat_le priority MAX_PRIORITY && nat_le retries MAX_RETRIES in
    let one = and_parts (named && has_ccb rules before) (has_stay rules before) h in
    let two = and_parts named (has_ccb rules before) one.0 in
    and_from _ _ (and_from _ _ two.0 refl) (below_more _ _ _ w.stays one.1)

allowed_requeue : (rules : Rules) (c : Topology) (before : List Event) (ccb : ℕ) → IsWithinHistory rules → is_allowed rules c before (Requeue ccb) ≡ true → is_allowed history_rules c before (Requeue ccb) ≡ true
allowed_requeue rules c before ccb w h =
    let one = and_parts (names_ccb before ccb && has_stay rules before && is_recovering before ccb) (wants_requeue before ccb) h in
    let two = and_parts (names_ccb before ccb && has_stay rules before) (is_recovering before ccb) one.0 in
    let three = and_parts (names_ccb before ccb) (has_stay rules before) two.0 in
    and_from _ _ (and_from _ _ (and_from _ _ three.0 (below_more _ _ _ w.stays three.1)) two.1) one.1

allowed_tick : (rules : Rules) (c : Topology) (before : List Event) → IsWithinHistory rules → is_allowed rules c before Tick ≡ true → is_allowed history_rules c before Tick ≡ true
allowed_tick rules c before w h =
    let parts = and_parts (not (has_in_flight before)) (nat_lt (round before) rules.rounds) h in
    and_from _ _ parts.0 (below_more _ _ _ w.rounds parts.1)

allowed_history : (rules : Rules) (c : Topology) (before : List Event) (event : Event) → IsWithinHistory rules → is_allowed rules c before event ≡ true → is_allowed history_rules c before event ≡ true
allowed_history rules c before (Submit driver device priority retries flags) w h = allowed_submit rules c before driver device priority retries flags w h
allowed_history rules c before (Requeue ccb) w h = allowed_requeue rules c before ccb w h
allowed_history rules c before Tick w h = allowed_tick rules c before w h
allowed_history rules c before _ w h = h

-- an event that is legal by narrower rules is legal in a history
pub legal_event-history : (rules : Rules) (c : Topology) (m : List Event × Event) → IsWithinHistory rules → is_legal_event rules c m ≡ true → is_legal_event history_rules c m ≡ true
unfolding is_legal_event
legal_event-history rules c (before, event) w h =
    let parts = and_parts (nat_lt (length before) rules.events) (is_allowed rules c before event) h in
    and_from _ _ (below_more _ _ _ w.events parts.0) (allowed_history rules c before event w parts.1)

pub narrower_is_legal : (rules : Rules) (c : Topology) (events : List Event) → IsWithinHistory rules → is_legal rules c events ≡ true → is_legal history_rules c events ≡ true
unfolding is_legal
narrower_is_legal rules c events w h = list_all-weaker (is_legal_event rules c) (is_legal_event history_rules c) (prefixed events) (λ m. legal_event-history rules c m w) h
