-- the drivers of a run after one event more
use Rattle.std.proofs.Common.{◌≡◌, ℕ, zero, suc, ◌+◌, ◌<◌, ◌≤◌, true, false, List, [], ◌∷◌, ◌++◌, length, set, get_or, replicate, refl, sym, ap, ◌∙◌, subst, arith, Some, None, inl, inr, nat_lt, take, slice_get, All}
use Rattle.std.proofs.lemmas.List.Elements.{All-head, All-tail, All-cons, All-nil}
use Rattle.std.specs.List.{list_all}
use Rattle.std.proofs.lemmas.Bool.{and_from, and_parts, ltb-true}
use Rattle.std.proofs.lemmas.List.Folds.{list_all-append}
use Rattle.cam_types.proofs.ListLemmas.{prefixed-push}
use Rattle.event_rules.proofs.LegalLemmas.{none-legal}
use Rattle.event_rules.proofs.LimitLemmas.{legal-front, legal-next}
use Rattle.sim_worker.specs.Words.{Bounds, Rules, Refusal, is_allowed, is_legal_event, refusal, refused, rules_of, is_legal, due_of, Past, prefixed, Topology, is_tick, Event, Tick, Scenario, Transport, AreInterleaved, is_rising, Held, Receipt, Driver, IsTaken}
use Rattle.xpt_lock.specs.Receipts.{all_receipts}
use Rattle.xpt_lock.proofs.ReplayLemmas.{length_receipts_of}
use Rattle.sim_worker.specs.LiveRuns.{IsAllDone, IsLastRound, IsLiveEnding, rows}
use Rattle.sim_worker.specs.Endings.{Ending, Drained, RoundsFull, HistoryFull}
use Rattle.sim_worker.proofs.WalkLemmas.{on_start}
use Rattle.sim_worker.specs.Runs.{is_in_time, are_ticks_in_time, may_tick}
use Rattle.sim_worker.specs.Walks.{AreOn, ArePlaced, AreRising, IsFollowed, IsFollowedTo, IsOf, IsOn, IsSoFar, Walk}
use Rattle.sim_worker.proofs.RunListFacts.{some_is, take_one, get_is, less_or_not, get_in_set, get_there, set_beside, there_is}

-- one driver more is after the event
pub one_more_behind : (s : Scenario) (logs : List Held) (after : List Event) (walks : List Walk) (i : ℕ) (log : Held) (new : Walk) → i < length logs → log ≡ get_or logs i log →
    ((d : ℕ) → log.name ≡ Driver d → IsOn s (rows s d) log.receipts after new) →
    ((k d : ℕ) (h : Held) (w : Walk) → k < i → slice_get logs k ≡ Some h → slice_get walks k ≡ Some w → h.name ≡ Driver d → IsOn s (rows s d) h.receipts after w) →
    (k d : ℕ) (h : Held) (w : Walk) → k < i + 1 → slice_get logs k ≡ Some h → slice_get (set walks i new) k ≡ Some w → h.name ≡ Driver d → IsOn s (rows s d) h.receipts after w
one_more_behind s logs after walks i log new lt is one others k d h w less at there name = elim (get_in_set walks i k new w there) [
  | inl same ↦
      let its : log ≡ h = some_is log h (sym (get_is logs i log lt is) ∙ ap (slice_get logs) (sym same.0) ∙ at) in
      subst (λ x. IsOn s (rows s d) x.receipts after w) its (subst (λ x. IsOn s (rows s d) log.receipts after x) (sym same.1) (one d (ap (λ (x : Held). x.name) its ∙ name)))
  | inr other ↦ others k d h w (elim (less_or_not k i) [ inl ok ↦ ok | inr ge ↦ absurd (other.0 (omega arith)) ]) at other.1 name
]

pub still_ahead : (walks old : List Walk) (i : ℕ) (new : Walk) → ((k : ℕ) → i ≤ k → slice_get walks k ≡ slice_get old k) → (k : ℕ) → i + 1 ≤ k → slice_get (set walks i new) k ≡ slice_get old k
still_ahead walks old i new h k le = set_beside walks i k new (λ e. omega arith) ∙ h k (omega arith)

pub in_time : (c : Topology) (limits : Bounds) (before : List Event) (e : Event) → (is_tick e ≡ true → may_tick c limits before ≡ true) → is_in_time c limits (before, e) ≡ true
in_time c limits before Tick h = h refl
in_time c limits before _ h = refl

pub ticks-push : (c : Topology) (limits : Bounds) (es : List Event) (e : Event) → is_in_time c limits (es, e) ≡ true → are_ticks_in_time c limits es ≡ true → are_ticks_in_time c limits (es ++ e ∷ []) ≡ true
ticks-push c limits es e here h = ap (list_all (is_in_time c limits)) (prefixed-push es e) ∙ list_all-append (is_in_time c limits) (prefixed es) ((es, e) ∷ []) ∙ and_from _ _ h (and_from _ _ here refl)

pub still_of : (s : Scenario) (t new : Transport) (e : Event) → IsTaken t e new → IsOf s t → IsOf s new
still_of s t new e made of = subst (IsOf s) (sym made.1) of

pub one_event_more : (es : List Event) (i : ℕ) (e : Event) → i < length es → e ≡ get_or es i e → take (i + 1) es ≡ take i es ++ e ∷ []
one_event_more es i e lt is = (take_one es i e (get_is es i e lt is)).1

-- what holds of each driver's log before a place, and of the log there, holds of each before the next
pub each_more : (P : ℕ → Held → Type 0) (logs : List Held) (i : ℕ) (log : Held) → i < length logs → log ≡ get_or logs i log → ((d : ℕ) → log.name ≡ Driver d → P d log) →
    ((k d : ℕ) (h : Held) → k < i → slice_get logs k ≡ Some h → h.name ≡ Driver d → P d h) → (k d : ℕ) (h : Held) → k < i + 1 → slice_get logs k ≡ Some h → h.name ≡ Driver d → P d h
each_more P logs i log lt is one others k d h less at name = elim (less_or_not k i) [
  | inl before ↦ others k d h before at name
  | inr rest ↦
      let same : k ≡ i = omega arith in
      let its : log ≡ h = some_is log h (sym (get_is logs i log lt is) ∙ ap (slice_get logs) (sym same) ∙ at) in
      subst (P d) its (one d (ap (λ (x : Held). x.name) its ∙ name))
]

-- the same of any logs
pub log_more : (P : Held → Type 0) (logs : List Held) (i : ℕ) (log : Held) → i < length logs → log ≡ get_or logs i log → P log → ((k : ℕ) (h : Held) → k < i → slice_get logs k ≡ Some h → P h) →
    (k : ℕ) (h : Held) → k < i + 1 → slice_get logs k ≡ Some h → P h
log_more P logs i log lt is one others k h less at = elim (less_or_not k i) [
  | inl before ↦ others k h before at
  | inr rest ↦ let same : k ≡ i = omega arith in subst P (some_is log h (sym (get_is logs i log lt is) ∙ ap (slice_get logs) (sym same) ∙ at)) one
]

-- ---- an event that isn't one of a run

is_in_time_of : (c : Topology) (limits : Bounds) (before : List Event) (e : Event) → are_ticks_in_time c limits (before ++ e ∷ []) ≡ true → is_in_time c limits (before, e) ≡ true
is_in_time_of c limits before e h =
    let parts = and_parts (list_all (is_in_time c limits) (prefixed before)) (list_all (is_in_time c limits) ((before, e) ∷ [])) (sym (ap (list_all (is_in_time c limits)) (prefixed-push before e) ∙ list_all-append (is_in_time c limits) (prefixed before) ((before, e) ∷ [])) ∙ h) in
    (and_parts (is_in_time c limits (before, e)) true parts.1).0

room_for : (rules : Rules) (c : Topology) (before : List Event) (e : Event) → is_legal_event rules c (before, e) ≡ true → length before < rules.events
unfolding is_legal_event
room_for rules c before e h = ltb-true (length before) rules.events (and_parts (nat_lt (length before) rules.events) (is_allowed rules c before e) h).0

-- what a legal list with one event more says
so_far : (s : Scenario) (before : List Event) (e : Event) → is_legal (rules_of s.limits) s.config (before ++ e ∷ []) ≡ true → IsSoFar s before × (refusal (rules_of s.limits) s.config before e ≡ None)
so_far s before e legal =
    let here = legal-next (rules_of s.limits) s.config before e [] legal in
    (record { legal = legal-front (rules_of s.limits) s.config before (e ∷ []) legal; room = room_for (rules_of s.limits) s.config before e here }, none-legal (rules_of s.limits) s.config before e here)

-- a round that opens though a lane or recovery could act
pub opened_early : (s : Scenario) (logs : List Held) (t : Transport) (e : Event) → is_tick e ≡ true → IsOf s t → (IsSoFar s t.events → may_tick s.config s.limits t.events ≡ true → ⊥) → IsFollowedTo s (t.events ++ e ∷ []) logs → ⊥
opened_early s logs t Tick tick of busy h = busy (so_far s t.events Tick h.legal).0 (is_in_time_of s.config s.limits t.events Tick h.ticks)
opened_early s logs t _ tick of busy h = absurd (cc)

-- an event that the transport refuses
pub refused_event : (s : Scenario) (logs : List Held) (t : Transport) (e : Event) (why : Refusal) → IsOf s t → refused t e ≡ Some why → IsFollowedTo s (t.events ++ e ∷ []) logs → ⊥
refused_event s logs t e why of stated h =
    let none = (so_far s t.events e h.legal).1 in
    let same : refused t e ≡ refusal (rules_of s.limits) s.config t.events e = ap (λ (r : Rules). refusal r t.config t.events e) of.1 ∙ ap (λ (c : Topology). refusal (rules_of s.limits) c t.events e) of.0 in
    never why (sym stated ∙ same ∙ none)
  where
    never : (why : Refusal) → Some why ≡ None → ⊥
    never why e = cc

-- ---- a whole run

one_of_many : {X : Type 0} → (n i : ℕ) (x w : X) → slice_get (replicate n x) i ≡ Some w → x ≡ w
one_of_many zero i x w h = absurd (cc)
one_of_many (suc n) zero x w h = some_is x w h
one_of_many (suc n) (suc i) x w h = one_of_many n i x w h

pub start_on : (s : Scenario) (logs : List Held) (walks : List Walk) (n : ℕ) → walks ≡ replicate n (record { row = 0; made = 0; refused = false }) → AreOn s logs [] walks
start_on s logs walks n is i d h w at there name =
    let first = one_of_many n i (record { row = 0; made = 0; refused = false }) w (ap (λ (ws : List Walk). slice_get ws i) (sym is) ∙ there) in
    subst (IsOn s (rows s d) h.receipts []) first (on_start s (rows s d) h.receipts)

pub followed_to : (s : Scenario) (events : List Event) (logs : List Held) (walks : List Walk) (t : Transport) → length walks ≡ length logs →
    IsOf s t × (t.events ≡ events) × AreOn s logs events walks × (are_ticks_in_time s.config s.limits events ≡ true) → is_legal t.rules t.config t.events ≡ true → IsFollowedTo s events logs
followed_to s events logs walks t same passed sound = record {
  drivers = λ i h at d name.
      let walk = get_there walks i (omega (arith, there_is logs i h at, same)) in
      (passed.2 i d h walk.0 at walk.1 name).log;
  legal = subst (λ (r : Rules). is_legal r s.config events ≡ true) passed.0.1 (subst (λ (c : Topology). is_legal t.rules c events ≡ true) passed.0.0 (subst (λ es. is_legal t.rules t.config es ≡ true) passed.1 sound));
  ticks = passed.3;
}

pub followed : (s : Scenario) (events : List Event) (logs : List Held) (walks : List Walk) (t : Transport) (stated : Ending) → length walks ≡ length logs →
    IsOf s t × (t.events ≡ events) × AreOn s logs events walks × (are_ticks_in_time s.config s.limits events ≡ true) → is_legal t.rules t.config t.events ≡ true → IsLiveEnding s t.events logs stated → IsFollowed s events logs stated
followed s events logs walks t stated same passed sound over = record {
  whole = followed_to s events logs walks t same passed sound;
  over = subst (λ es. IsLiveEnding s es logs stated) passed.1 over;
}

all_held : {X : Type 0} → (P : X → Type 0) (xs : List X) (i : ℕ) (x : X) → All P xs → slice_get xs i ≡ Some x → P x
all_held P [] i x h at = absurd (cc)
all_held P (y ∷ ys) zero x h at = subst P (some_is y x at) (All-head P y ys h)
all_held P (y ∷ ys) (suc i) x h at = all_held P ys i x (All-tail P y ys h) at

-- the places of consistent logs rise
pub logs_rise : (due : List Receipt) (logs : List Held) → AreInterleaved due logs → AreRising logs
logs_rise due logs h i log at = all_held (λ (x : Held). is_rising x.receipts ≡ true) logs i log h.consistent.rise at

front_all : (P : Receipt → Type 0) (xs ys : List Receipt) → All P (xs ++ ys) → All P xs
front_all P [] ys h = All-nil P
front_all P (x ∷ xs) ys h = All-cons P x xs (All-head P x (xs ++ ys) h) (front_all P xs ys (All-tail P x (xs ++ ys) h))

rest_all : (P : Receipt → Type 0) (xs ys : List Receipt) → All P (xs ++ ys) → All P ys
rest_all P [] ys h = h
rest_all P (x ∷ xs) ys h = rest_all P xs ys (All-tail P x (xs ++ ys) h)

-- what holds of all receipts, log by log, holds of each log's
of_each : (P : Receipt → Type 0) (logs : List Held) (i j : ℕ) (log : Held) (r : Receipt) → All P (all_receipts logs) → slice_get logs i ≡ Some log → slice_get log.receipts j ≡ Some r → P r
of_each P [] i j log r h at there = absurd (cc)
of_each P (x ∷ xs) zero j log r h at there = all_held P x.receipts j r (front_all P x.receipts (all_receipts xs) h) (ap (λ (y : Held). slice_get y.receipts j) (some_is x log at) ∙ there)
of_each P (x ∷ xs) (suc i) j log r h at there = of_each P xs i j log r (rest_all P x.receipts (all_receipts xs) h) at there

-- receipts that interleave to those of a history are for its events
pub logs_placed : (h : Past) (logs : List Held) → AreInterleaved (due_of h) logs → ArePlaced logs h.events
logs_placed h logs fit i j log r at there =
    let stands = of_each (λ (x : Receipt). slice_get (due_of h) x.at ≡ Some x) logs i j log r fit.consistent.stand at there in
    omega (arith, there_is (due_of h) r.at r stands, length_receipts_of h.config h.events)

-- where none of the three endings fits
pub unended : (s : Scenario) (events : List Event) (logs : List Held) → (IsAllDone s events logs → ⊥) → (length events ≡ s.limits.events → ⊥) → (IsLastRound s events logs → ⊥) → (stated : Ending) → IsLiveEnding s events logs stated → ⊥
unended s events logs busy room rounds Drained over = busy over
unended s events logs busy room rounds RoundsFull over = rounds over.1
unended s events logs busy room rounds HistoryFull over = room over.1
