-- refusals where the history is full, and where it isn't
use Rattle.std.proofs.Common.{◌≡◌, ◌≤◌, ◌<◌, inl, inr, Bool, true, false, List, [], ◌∷◌, length, refl, sym, ap, ◌∙◌, Option, Some, not, nat_le, nat_lt, is_none}
use Rattle.std.specs.List.{list_all}
use Rattle.std.proofs.lemmas.Bool.{and_parts, and_from, ltb-false}
use Rattle.sim_worker.specs.Words.{Topology, has_in_flight, round, Event, Submit, Tick, Rules, is_legal_event, is_allowed, causes, first_cause, refusal, Refusal, HistoryFull, RoundsFull, InFlight}
use Rattle.event_rules.proofs.QueueLaws.{test_le, le_test}
use Rattle.sim_worker.proofs.RunListFacts.{less_or_not}
use Rattle.sim_worker.specs.Work.{is_full}
use Rattle.event_rules.proofs.LegalLemmas.{legal-unrefused}

abbrev pub says_full : Option Refusal → Bool
says_full (Some (HistoryFull n)) = true
says_full _ = false

pub false_true : false ≡ true → ⊥
false_true e = absurd (cc)

says_none : (why : Refusal) → not (is_full why) ≡ true → says_full (Some why) ≡ false
says_none (HistoryFull n) h = absurd (cc)
says_none _ h = refl

-- no cause of an event's own says that the history is full
not_full : (ms : List (Bool × Refusal)) → list_all (λ m. not (is_full m.1)) ms ≡ true → says_full (first_cause ms) ≡ false
not_full [] h = refl
not_full ((holds, why) ∷ ms) h =
    let parts = and_parts (not (is_full why)) (list_all (λ m. not (is_full m.1)) ms) h in
    elim holds as (λ b. says_full (first_cause ((b, why) ∷ ms)) ≡ false) [
      | true ↦ says_none why parts.0
      | false ↦ not_full ms parts.1
    ]

own_causes : (rules : Rules) (c : Topology) (es : List Event) (e : Event) → list_all (λ m. not (is_full m.1)) (causes rules c es e) ≡ true
own_causes rules c es (Submit driver device priority retries flags) = refl
own_causes rules c es _ = refl

-- HistoryFull is answered where the events are as many as may be
pub full_at_limit : (rules : Rules) (c : Topology) (es : List Event) (e : Event) → says_full (refusal rules c es e) ≡ true → rules.events ≤ length es
unfolding refusal
full_at_limit rules c es e h = elim (nat_le rules.events (length es)) as (λ b. nat_le rules.events (length es) ≡ b → says_full (first_cause ((b, HistoryFull (length es)) ∷ causes rules c es e)) ≡ true → rules.events ≤ length es) [
  | true ↦ λ at stated. test_le rules.events (length es) at
  | false ↦ λ at stated. absurd (false_true (sym (not_full (causes rules c es e) (own_causes rules c es e)) ∙ stated))
] refl h

-- an event that is refused though it is allowed finds a full history
pub allowed_at_limit : (rules : Rules) (c : Topology) (es : List Event) (e : Event) (why : Refusal) → is_allowed rules c es e ≡ true → refusal rules c es e ≡ Some why → rules.events ≤ length es
unfolding is_legal_event
allowed_at_limit rules c es e why allowed refused = elim (nat_lt (length es) rules.events) as (λ b. nat_lt (length es) rules.events ≡ b → rules.events ≤ length es) [
  | true ↦ λ room. absurd (false_true (sym (ap is_none refused) ∙ sym (legal-unrefused rules c es e) ∙ and_from _ _ room allowed))
  | false ↦ λ none. ltb-false (length es) rules.events none
] refl

pub full_is : (why : Refusal) → says_full (Some why) ≡ is_full why
full_is (HistoryFull n) = refl
full_is _ = refl

some_why : (b : Bool) (why : Refusal) → first_cause ((b, RoundsFull) ∷ []) ≡ Some why → b ≡ true
some_why true why h = refl
some_why false why h = absurd (cc)

-- a round that may not open though nothing is in flight is the last
pub last_round : (rules : Rules) (c : Topology) (es : List Event) (why : Refusal) → refusal rules c es Tick ≡ Some why → is_full why ≡ false → has_in_flight es ≡ false → rules.rounds ≤ round es
unfolding refusal
last_round rules c es why stated other landed = elim (nat_le rules.events (length es)) as (λ b. first_cause ((b, HistoryFull (length es)) ∷ (has_in_flight es, InFlight) ∷ (nat_le rules.rounds (round es), RoundsFull) ∷ []) ≡ Some why → rules.rounds ≤ round es) [
  | true ↦ λ at. absurd (false_true (sym other ∙ sym (full_is why) ∙ ap says_full (sym at)))
  | false ↦ λ at. test_le rules.rounds (round es) (some_why (nat_le rules.rounds (round es)) why (sym (ap (λ b. first_cause ((b, InFlight) ∷ (nat_le rules.rounds (round es), RoundsFull) ∷ [])) landed) ∙ at))
] stated

-- what is refused otherwise leaves room for its event
pub room_left : (rules : Rules) (c : Topology) (es : List Event) (e : Event) (why : Refusal) → refusal rules c es e ≡ Some why → is_full why ≡ false → length es < rules.events
unfolding refusal
room_left rules c es e why stated other = elim (nat_le rules.events (length es)) as (λ b. nat_le rules.events (length es) ≡ b → first_cause ((b, HistoryFull (length es)) ∷ causes rules c es e) ≡ Some why → length es < rules.events) [
  | true ↦ λ is at. absurd (false_true (sym other ∙ sym (full_is why) ∙ ap says_full (sym at)))
  | false ↦ λ is at. elim (less_or_not (length es) rules.events) [
    | inl less ↦ less
    | inr most ↦ absurd (false_true (sym is ∙ le_test rules.events (length es) most))
  ]
] refl stated
