-- what is legal is what isn't refused
use Rattle.std.proofs.Common.{Option, ◌≡◌, ℕ, Bool, true, false, List, [], ◌∷◌, length, refl, sym, ap, ◌∙◌, arith, Some, None, not, ◌&&◌, nat_lt, nat_le, is_none}
use Rattle.std.specs.List.{list_all}
use Rattle.std.specs.Option.{option_map_or}
use Rattle.std.proofs.lemmas.Bool.Decides.{nat_tests}
use Rattle.std.proofs.Math.Bool.{not-not, and-true, and_assoc}
use Rattle.cam_types.specs.declared.flags.Flags.{Flags}
use Rattle.event_rules.specs.Counts.{alive}
use Rattle.cam_types.specs.Topology.{Topology}
use Rattle.event_rules.specs.Event.{is_some_and, Event, Submit, Send, ReleaseSim, Adjust, Tick}
use Rattle.cam_types.specs.Questions.{names_lane, lane_adapter}
use Rattle.event_rules.specs.Legal.{Rules, is_legal_event, is_allowed, has_ccb, names_ccb, is_next}
use Rattle.event_rules.specs.Refusals.{device_of, are_ccbs_full, causes, first_cause, refusal, Refusal, HistoryFull}
use Rattle.event_rules.proofs.SendLemmas.{is_sendable, is_next-is_sendable}

-- there is no first cause where none holds
pub is_none-first_cause : (ms : List (Bool × Refusal)) → is_none (first_cause ms) ≡ list_all (λ m. not m.0) ms
is_none-first_cause [] = refl
is_none-first_cause ((holds, name) ∷ ms) = elim holds as (λ b. is_none (first_cause ((b, name) ∷ ms)) ≡ (not b && list_all (λ m. not m.0) ms)) [
  | true ↦ refl
  | false ↦ is_none-first_cause ms
]

not-ltb : (a b : ℕ) → not (nat_lt a b) ≡ nat_le b a
not-ltb a b = grind (arith, nat_tests)

not-leb : (a b : ℕ) → not (nat_le a b) ≡ nat_lt b a
not-leb a b = grind (arith, nat_tests)

not-full : (rules : Rules) (before : List Event) → not (are_ccbs_full rules before) ≡ has_ccb rules before
not-full rules before = elim rules.ccbs as (λ o. not (is_some_and (λ most. nat_le most (alive before)) o) ≡ option_map_or (λ most. nat_lt (alive before) most) o true) [
  | None ↦ refl
  | Some most ↦ not-leb most (alive before)
]

-- what a kind of event asks is that no cause refuses it
allowed_submit : (rules : Rules) (c : Topology) (before : List Event) (driver device priority retries : ℕ) (flags : Flags) → is_allowed rules c before (Submit driver device priority retries flags) ≡ list_all (λ m. not m.0) (causes rules c before (Submit driver device priority retries flags))
allowed_submit rules c before driver device priority retries flags = rw not-full (simp (not-ltb, not-leb, and-true, and_assoc) refl)

send_asks : (c : Topology) (before : List Event) (lane ccb : ℕ) → (names_lane c lane && names_ccb before ccb && is_next c before lane ccb) ≡ (names_lane c lane && (names_ccb before ccb && is_sendable c before (device_of before ccb) (lane_adapter c lane) ccb))
send_asks c before lane ccb = elim (names_lane c lane) as (λ b. names_lane c lane ≡ b → (b && names_ccb before ccb && is_next c before lane ccb) ≡ (b && (names_ccb before ccb && is_sendable c before (device_of before ccb) (lane_adapter c lane) ccb))) [
  | true ↦ λ e. rw (is_next-is_sendable c before lane ccb e) refl
  | false ↦ λ _. refl
] refl

allowed_send : (rules : Rules) (c : Topology) (before : List Event) (lane ccb : ℕ) → is_allowed rules c before (Send lane ccb) ≡ list_all (λ m. not m.0) (causes rules c before (Send lane ccb))
allowed_send rules c before lane ccb = simp (not-not, and-true) (send_asks c before lane ccb)

pub allowed-causes : (rules : Rules) (c : Topology) (before : List Event) (event : Event) → is_allowed rules c before event ≡ list_all (λ m. not m.0) (causes rules c before event)
allowed-causes rules c before (Submit driver device priority retries flags) = allowed_submit rules c before driver device priority retries flags
allowed-causes rules c before (Send lane ccb) = allowed_send rules c before lane ccb
allowed-causes rules c before (ReleaseSim sim) = simp (not-ltb, not-leb, and-true) refl
allowed-causes rules c before (Adjust device openings) = simp (not-ltb, not-leb, not-not, and-true) refl
allowed-causes rules c before Tick = simp (not-leb, and-true) refl
allowed-causes rules c before _ = simp (not-ltb, not-leb, not-not, and-true, and_assoc) refl

-- an event is legal where no cause refuses it
pub legal-unrefused : (rules : Rules) (c : Topology) (before : List Event) (event : Event) → is_legal_event rules c (before, event) ≡ is_none (refusal rules c before event)
unfolding is_legal_event refusal
legal-unrefused rules c before event =
    sym (is_none-first_cause ((nat_le rules.events (length before), HistoryFull (length before)) ∷ causes rules c before event) ∙ rw (not-leb, allowed-causes rules c before event) refl)

-- what no cause refuses is legal
pub legal-none : (rules : Rules) (c : Topology) (before : List Event) (event : Event) → refusal rules c before event ≡ None → is_legal_event rules c (before, event) ≡ true
legal-none rules c before event h = legal-unrefused rules c before event ∙ ap is_none h

-- what is legal no cause refuses
pub none-legal : (rules : Rules) (c : Topology) (before : List Event) (event : Event) → is_legal_event rules c (before, event) ≡ true → refusal rules c before event ≡ None
none-legal rules c before event h = none-is_none (refusal rules c before event) (sym (legal-unrefused rules c before event) ∙ h)
  where
    none-is_none : (o : Option Refusal) → is_none o ≡ true → o ≡ None
    none-is_none None g = refl
    none-is_none (Some r) g = absurd cc
