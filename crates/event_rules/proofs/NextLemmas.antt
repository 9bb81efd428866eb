-- whose turn it is on an adapter
use Rattle.std.proofs.Common.{◌≡◌, ℕ, ◌<◌, true, false, cond, List, length, get_or, zero-add, refl, sym, ap, ◌∙◌, arith, Some, None, slice_get, ◌&&◌, ◌==◌, filter, is_some, option_and_then}
use Rattle.std.specs.List.{list_all}
use Rattle.std.specs.Option.{option_map_or}
use Rattle.std.proofs.lemmas.Bool.{and_parts, and_from, eqb-true, eq-eqb}
use Rattle.std.proofs.lemmas.List.Folds.{list_any_at}
use Rattle.std.proofs.lemmas.List.FromFn.{length-range_with_len, get_or-range_with_len}
use Rattle.std.proofs.lemmas.Option.{slice_get_within}
use Rattle.cam_types.specs.Lists.{least_by}
use Rattle.cam_types.specs.Topology.{Topology}
use Rattle.cam_types.specs.declared.device.Device.{Device}
use Rattle.event_rules.specs.Event.{is_some_and, Event}
use Rattle.event_rules.specs.Counts.{submission, freeze_count, adapter_freezes, Submission}
use Rattle.event_rules.specs.Stays.{stays_begun, waiting, is_unsent, has_arrived, has_queued, queue, queue_key, first, Passage}
use Rattle.cam_types.specs.Questions.{is_on, devices}
use Rattle.event_rules.specs.Head.{has_opening, adapter_has_opening, link_has_opening, is_ready, turn_key, turn, head, next}
use Rattle.event_rules.specs.Laws.{is_stay_of}
use Rattle.event_rules.specs.Refusals.{device_of}
use Rattle.event_rules.proofs.TestLemmas.{IsIn, in_found, in_filter, passes-all, list_any-with, list_all-filter, list_all-filtered}
use Rattle.event_rules.proofs.LeastLemmas.{is_some-least_by-filter}
use Rattle.event_rules.proofs.StayLemmas.{is_of_its_ccb, of_its_ccb-stays_begun}

-- a waiting stay is of its CCB
of_its_ccb-waiting : (events : List Event) → list_all (is_of_its_ccb events) (waiting events) ≡ true
unfolding waiting
of_its_ccb-waiting events = list_all-filtered (is_unsent events) (is_of_its_ccb events) (stays_begun events) (of_its_ccb-stays_begun events)

-- the device of a stay's CCB is the stay's
pub device-of_its_ccb : (events : List Event) (p : Passage) → is_of_its_ccb events p ≡ true → device_of events p.ccb ≡ p.device
device-of_its_ccb events p h = elim (submission events p.ccb) as (λ o. is_some_and (is_stay_of p) o ≡ true → option_map_or (λ (s : Submission). s.device) o 0 ≡ p.device) [
  | None ↦ λ g. absurd cc
  | Some s ↦ λ g. eqb-true s.device p.device (and_parts (s.device == p.device) (s.priority == p.priority) g).0
] h

-- the first of a device's queue is one of its stays, and queued
pub record IsQueued (events : List Event) (d : ℕ) (p : Passage) : Type 0 where
  pub at : p.device ≡ d
  pub of_its_ccb : is_of_its_ccb events p ≡ true
  pub queued : has_queued events p.ccb ≡ true

pub queued-first : (events : List Event) (d : ℕ) (p : Passage) → first events d ≡ Some p → IsQueued events d p
unfolding first queue has_queued
queued-first events d p h =
    let here = λ (q : Passage). (q.device == d) && has_arrived events q in
    let one = in_found _ (filter here (waiting events)) p h in
    let within : IsIn p (waiting events) = in_filter here (waiting events) p one.0 in
    let passes : here p ≡ true = passes-all p (filter here (waiting events)) here one.0 (list_all-filter here (waiting events)) in
    let parts = and_parts (p.device == d) (has_arrived events p) passes in
    record {
      at = eqb-true p.device d parts.0;
      of_its_ccb = passes-all p (waiting events) (is_of_its_ccb events) within (of_its_ccb-waiting events);
      queued = within.passes (λ q. (q.ccb == p.ccb) && has_arrived events q) (and_from _ _ (eq-eqb p.ccb p.ccb refl) parts.1);
    }

-- a stay of the CCB that has arrived has arrived at the CCB's device
at_device : (events : List Event) (ccb : ℕ) (q : Passage) → ((q.ccb == ccb) ≡ true) × (has_arrived events q ≡ true) → is_of_its_ccb events q ≡ true → ((q.device == device_of events ccb) && has_arrived events q) ≡ true
at_device events ccb q h own =
    let same = eqb-true q.ccb ccb h.0 in
    and_from _ _ (eq-eqb q.device (device_of events ccb) (sym (device-of_its_ccb events q own) ∙ ap (device_of events) same)) h.1

-- a device has a first stay where one of its CCBs' is queued
pub is_some-first : (events : List Event) (ccb : ℕ) → has_queued events ccb ≡ true → is_some (first events (device_of events ccb)) ≡ true
unfolding first queue has_queued
is_some-first events ccb h =
    let d = device_of events ccb in
    is_some-least_by-filter queue_key (λ q. (q.device == d) && has_arrived events q) (waiting events) ∙ list_any-with (λ q. (q.ccb == ccb) && has_arrived events q) (is_of_its_ccb events) _ (waiting events) (λ q e own. let parts = and_parts (q.ccb == ccb) (has_arrived events q) e in at_device events ccb q parts own) h (of_its_ccb-waiting events)

-- the device whose turn it is is on the adapter and ready, and the adapter is free, and so is its link
pub record IsHead (c : Topology) (events : List Event) (a d : ℕ) : Type 0 where
  pub on : is_on c a d ≡ true
  pub ready : is_ready c events d ≡ true
  pub adapter_free : (adapter_freezes events a == 0) ≡ true
  pub adapter_opening : adapter_has_opening c events a ≡ true
  pub link_opening : link_has_opening c events a ≡ true
  pub turn_is : turn c events a ≡ Some d

turn_stands : (c : Topology) (events : List Event) (a d : ℕ) → link_has_opening c events a ≡ true → turn c events a ≡ Some d → IsHead c events a d
unfolding turn
turn_stands c events a d clear h =
    let takes = λ (n : ℕ). is_on c a n && is_ready c events n in
    let turns = filter takes (devices c) in
    elim ((adapter_freezes events a == 0) && adapter_has_opening c events a) as (λ b. ((adapter_freezes events a == 0) && adapter_has_opening c events a) ≡ b → cond b (least_by (turn_key events) turns) None ≡ Some d → IsHead c events a d) [
      | true ↦ λ e g.
          let free = and_parts (adapter_freezes events a == 0) (adapter_has_opening c events a) e in
          let one = in_found _ turns d g in
          let parts = and_parts (is_on c a d) (is_ready c events d) (passes-all d turns takes one.0 (list_all-filter takes (devices c))) in
          record { on = parts.0; ready = parts.1; adapter_free = free.0; adapter_opening = free.1; link_opening = clear; turn_is = h }
      | false ↦ λ e g. absurd cc
    ] refl h

pub head_stands : (c : Topology) (events : List Event) (a d : ℕ) → head c events a ≡ Some d → IsHead c events a d
unfolding head
head_stands c events a d h = elim (link_has_opening c events a) as (λ b. link_has_opening c events a ≡ b → cond b (turn c events a) None ≡ Some d → IsHead c events a d) [
  | true ↦ λ clear g. turn_stands c events a d clear g
  | false ↦ λ clear g. absurd cc
] refl h

-- an adapter that is free has a head where one of its devices is ready
pub is_some-head : (c : Topology) (events : List Event) (a d : ℕ) → is_on c a d ≡ true → is_ready c events d ≡ true → (adapter_freezes events a == 0) ≡ true → adapter_has_opening c events a ≡ true
    → link_has_opening c events a ≡ true → is_some (head c events a) ≡ true
unfolding head turn
is_some-head c events a d on ready free left clear =
    let takes = λ (n : ℕ). is_on c a n && is_ready c events n in
    let there = elim (slice_get c.devices d) as (λ o. slice_get c.devices d ≡ o → option_map_or (λ (device : Device). device.bus == a) o false ≡ true → d < length c.devices) [
      | None ↦ λ e g. absurd cc
      | Some device ↦ λ e g. slice_get_within c.devices d device e
    ] refl on in
    let at : get_or (devices c) d 0 ≡ d = get_or-range_with_len 0 (length c.devices) d 0 there ∙ zero-add d in
    let some = list_any_at takes (devices c) d 0 (omega (arith, there, length-range_with_len 0 (length c.devices))) (ap takes at ∙ and_from _ _ on ready) in
    rw (clear, and_from _ _ free left) (is_some-least_by-filter (turn_key events) takes (devices c) ∙ some)

-- what holds of an adapter's next stay
pub record IsNextStay (c : Topology) (events : List Event) (a : ℕ) (p : Passage) : Type 0 where
  pub of_its_ccb : is_of_its_ccb events p ≡ true
  pub queued : has_queued events p.ccb ≡ true
  pub on : is_on c a p.device ≡ true
  pub device_free : (freeze_count events p.device == 0) ≡ true
  pub device_opening : has_opening c events p.device ≡ true
  pub adapter_free : (adapter_freezes events a == 0) ≡ true
  pub adapter_opening : adapter_has_opening c events a ≡ true
  pub link_opening : link_has_opening c events a ≡ true

pub next_stands : (c : Topology) (events : List Event) (a : ℕ) (p : Passage) → next c events a ≡ Some p → IsNextStay c events a p
unfolding next is_ready
next_stands c events a p h =
    elim (head c events a) as (λ o. head c events a ≡ o → option_and_then (first events) o ≡ Some p → IsNextStay c events a p) [
      | None ↦ λ e g. absurd cc
      | Some d ↦ λ e g.
          let turn = head_stands c events a d e in
          let stay = queued-first events d p g in
          let ready = and_parts (is_some (first events d) && (freeze_count events d == 0)) (has_opening c events d) turn.ready in
          let free = and_parts (is_some (first events d)) (freeze_count events d == 0) ready.0 in
          record {
            of_its_ccb = stay.of_its_ccb;
            queued = stay.queued;
            on = rw stay.at turn.on;
            device_free = rw stay.at free.1;
            device_opening = rw stay.at ready.1;
            adapter_free = turn.adapter_free;
            adapter_opening = turn.adapter_opening;
            link_opening = turn.link_opening;
          }
    ] refl h

-- a ready device's turn has a first stay
pub is_some-next : (c : Topology) (events : List Event) (a : ℕ) → is_some (head c events a) ≡ true → is_some (next c events a) ≡ true
unfolding next is_ready
is_some-next c events a h =
    elim (head c events a) as (λ o. head c events a ≡ o → is_some o ≡ true → is_some (option_and_then (first events) o) ≡ true) [
      | None ↦ λ e g. g
      | Some d ↦ λ e g.
          let turn = head_stands c events a d e in
          let ready = and_parts (is_some (first events d) && (freeze_count events d == 0)) (has_opening c events d) turn.ready in
          (and_parts (is_some (first events d)) (freeze_count events d == 0) ready.0).0
    ] refl h

-- the CCB is queued at a device that takes a command, on an adapter that takes one
pub record IsSendable (c : Topology) (events : List Event) (a ccb : ℕ) : Type 0 where
  pub queued : has_queued events ccb ≡ true
  pub on : is_on c a (device_of events ccb) ≡ true
  pub device_free : (freeze_count events (device_of events ccb) == 0) ≡ true
  pub device_opening : has_opening c events (device_of events ccb) ≡ true
  pub adapter_free : (adapter_freezes events a == 0) ≡ true
  pub adapter_opening : adapter_has_opening c events a ≡ true
  pub link_opening : link_has_opening c events a ≡ true

ready_at : (c : Topology) (events : List Event) (a ccb : ℕ) → IsSendable c events a ccb → is_ready c events (device_of events ccb) ≡ true
unfolding is_ready
ready_at c events a ccb s = and_from _ _ (and_from _ _ (is_some-first events ccb s.queued) s.device_free) s.device_opening

-- then its adapter has a next stay
pub is_some-next_at : (c : Topology) (events : List Event) (a ccb : ℕ) → IsSendable c events a ccb → is_some (next c events a) ≡ true
is_some-next_at c events a ccb s =
    is_some-next c events a (is_some-head c events a (device_of events ccb) s.on (ready_at c events a ccb s) s.adapter_free s.adapter_opening s.link_opening)
