-- a send is of the stay whose turn it is where no cause refuses it
use Rattle.std.proofs.Common.{◌≡◌, ℕ, Bool, true, false, List, length, get_or, refl, sym, ap, ◌∙◌, Some, None, slice_get, not, ◌&&◌, ◌==◌, is_some}
use Rattle.std.specs.Option.{option_map_or}
use Rattle.std.proofs.lemmas.Bool.{and_parts, and_from, eqb-true, ltb-true, not-true, not-false, not_from_false, not_from_true}
use Rattle.std.proofs.lemmas.Option.{slice_get-get_or}
use Rattle.cam_types.specs.Topology.{Topology}
use Rattle.event_rules.specs.Event.{is_some_and, Event}
use Rattle.event_rules.specs.Counts.{freeze_count, adapter_freezes}
use Rattle.event_rules.specs.Stays.{has_queued, Passage}
use Rattle.cam_types.specs.Questions.{names_lane, is_on, lane_adapter}
use Rattle.event_rules.specs.Head.{has_opening, adapter_has_opening, link_has_opening, next}
use Rattle.event_rules.specs.Legal.{is_next}
use Rattle.event_rules.specs.Refusals.{device_of, have_openings, is_other_next}
use Rattle.event_rules.proofs.TestLemmas.{same_tests}
use Rattle.event_rules.proofs.NextLemmas.{next_stands, IsSendable, is_some-next_at, device-of_its_ccb}

-- the CCB whose turn it is on the lane's adapter may be sent
pub record IsSend (c : Topology) (before : List Event) (lane ccb : ℕ) : Type 0 where
  pub sendable : IsSendable c before (lane_adapter c lane) ccb
  pub turn : is_other_next c before (lane_adapter c lane) ccb ≡ false

-- the next stay's CCB may be sent
sendable_next : (c : Topology) (before : List Event) (a ccb : ℕ) (p : Passage) → next c before a ≡ Some p → (p.ccb == ccb) ≡ true → IsSendable c before a ccb
sendable_next c before a ccb p e same =
    let s = next_stands c before a p e in
    let name = eqb-true p.ccb ccb same in
    let d : device_of before ccb ≡ p.device = ap (device_of before) (sym name) ∙ device-of_its_ccb before p s.of_its_ccb in
    record {
      queued = rw (← name) s.queued;
      on = rw d s.on;
      device_free = rw d s.device_free;
      device_opening = rw d s.device_opening;
      adapter_free = s.adapter_free;
      adapter_opening = s.adapter_opening;
      link_opening = s.link_opening;
    }

-- whose turn it is, on the adapter a
abbrev is_turn : Topology → List Event → ℕ → ℕ → Bool
is_turn c before a ccb = is_some_and (λ (p : Passage). p.ccb == ccb) (next c before a)

sendable_turn : (c : Topology) (before : List Event) (a ccb : ℕ) → is_turn c before a ccb ≡ true → IsSendable c before a ccb × (is_other_next c before a ccb ≡ false)
sendable_turn c before a ccb h = elim (next c before a) as (λ o. next c before a ≡ o → is_some_and (λ (p : Passage). p.ccb == ccb) o ≡ true → IsSendable c before a ccb × (is_some_and (λ (p : Passage). not (p.ccb == ccb)) o ≡ false)) [
  | None ↦ λ e g. absurd cc
  | Some p ↦ λ e g. (sendable_next c before a ccb p e g, not_from_true (p.ccb == ccb) g)
] refl h

turn_sendable : (c : Topology) (before : List Event) (a ccb : ℕ) → IsSendable c before a ccb → is_other_next c before a ccb ≡ false → is_turn c before a ccb ≡ true
turn_sendable c before a ccb s h =
    let there = is_some-next_at c before a ccb s in
    elim (next c before a) as (λ o. is_some o ≡ true → is_some_and (λ (p : Passage). not (p.ccb == ccb)) o ≡ false → is_some_and (λ (p : Passage). p.ccb == ccb) o ≡ true) [
      | None ↦ λ e g. e
      | Some p ↦ λ e g. not-false (p.ccb == ccb) g
    ] there h

pub send_from_next : (c : Topology) (before : List Event) (lane ccb : ℕ) → is_next c before lane ccb ≡ true → IsSend c before lane ccb
unfolding is_next
send_from_next c before lane ccb h = elim (slice_get c.lanes lane) as (λ o. slice_get c.lanes lane ≡ o → is_some_and (λ a. is_turn c before a ccb) o ≡ true → IsSend c before lane ccb) [
  | None ↦ λ e g. absurd cc
  | Some a ↦ λ e g.
      let t = sendable_turn c before a ccb g in
      let at : lane_adapter c lane ≡ a = ap (λ o. option_map_or (λ n. n) o 0) e in
      record { sendable = rw at t.0; turn = rw at t.1 }
] refl h

pub next_from_send : (c : Topology) (before : List Event) (lane ccb : ℕ) → names_lane c lane ≡ true → IsSend c before lane ccb → is_next c before lane ccb ≡ true
unfolding is_next
next_from_send c before lane ccb there s =
    let a = get_or c.lanes lane 0 in
    let e : slice_get c.lanes lane ≡ Some a = slice_get-get_or c.lanes lane 0 (ltb-true lane (length c.lanes) there) in
    let at : lane_adapter c lane ≡ a = ap (λ o. option_map_or (λ n. n) o 0) e in
    rw e (turn_sendable c before a ccb (rw (← at) s.sendable) (rw (← at) s.turn))

-- no cause refuses it but that it names no lane or no CCB
abbrev pub is_sendable : Topology → List Event → ℕ → ℕ → ℕ → Bool
is_sendable c before d a ccb =
    has_queued before ccb && (is_on c a d && ((freeze_count before d == 0) && ((adapter_freezes before a == 0)
    && (have_openings c before d a && not (is_other_next c before a ccb)))))

is_sendable-from : (c : Topology) (before : List Event) (lane ccb : ℕ) → IsSend c before lane ccb → is_sendable c before (device_of before ccb) (lane_adapter c lane) ccb ≡ true
is_sendable-from c before lane ccb h =
    let s = h.sendable in
    and_from _ _ s.queued (and_from _ _ s.on (and_from _ _ s.device_free (and_from _ _ s.adapter_free (and_from _ _ (and_from _ _ (and_from _ _ s.device_opening s.adapter_opening) s.link_opening) (not_from_false _ h.turn)))))

from-is_sendable : (c : Topology) (before : List Event) (lane ccb : ℕ) → is_sendable c before (device_of before ccb) (lane_adapter c lane) ccb ≡ true → IsSend c before lane ccb
from-is_sendable c before lane ccb h =
    let d = device_of before ccb in
    let a = lane_adapter c lane in
    let one = and_parts (has_queued before ccb) _ h in
    let two = and_parts (is_on c a d) _ one.1 in
    let three = and_parts (freeze_count before d == 0) _ two.1 in
    let four = and_parts (adapter_freezes before a == 0) _ three.1 in
    let five = and_parts (have_openings c before d a) (not (is_other_next c before a ccb)) four.1 in
    let six = and_parts (has_opening c before d && adapter_has_opening c before a) (link_has_opening c before a) five.0 in
    let seven = and_parts (has_opening c before d) (adapter_has_opening c before a) six.0 in
    record {
      sendable = record {
        queued = one.0;
        on = two.0;
        device_free = three.0;
        device_opening = seven.0;
        adapter_free = four.0;
        adapter_opening = seven.1;
        link_opening = six.1;
      };
      turn = not-true (is_other_next c before a ccb) five.1;
    }

-- where there is such a lane, the CCB's turn is where no cause refuses it
pub is_next-is_sendable : (c : Topology) (before : List Event) (lane ccb : ℕ) → names_lane c lane ≡ true → is_next c before lane ccb ≡ is_sendable c before (device_of before ccb) (lane_adapter c lane) ccb
is_next-is_sendable c before lane ccb there =
    same_tests _ _ (λ h. is_sendable-from c before lane ccb (send_from_next c before lane ccb h)) (λ h. next_from_send c before lane ccb there (from-is_sendable c before lane ccb h))
