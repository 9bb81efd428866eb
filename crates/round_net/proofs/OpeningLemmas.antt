-- no more commands are sent in a round than there are openings, and openings are few
use Rattle.std.proofs.Common.{◌≡◌, ℕ, ◌+◌, ◌-◌, ◌<◌, ◌≤◌, true, false, cond, List, [], ◌∷◌, ◌++◌, length, refl, sym, ap, ◌∙◌, arith, Option, Some, None, ◌==◌, ◌&&◌, nat_lt, count_by, slice_get}
use Rattle.std.specs.Option.{option_map_or}
use Rattle.std.proofs.lemmas.Bool.{and_parts, eqb-true, ltb-true}
use Rattle.round_net.specs.Words.{Topology, Device, round, submission, sendings, sending_of, names_lane, is_on, is_under, lane_adapter, adapter_link, adapter_openings, link_openings, openings, goes_now_to, goes_now_to_adapter, goes_now_over_link, has_opening, adapter_has_opening, link_has_opening, Event, Send, Submission, Rules, is_next, is_legal_event, is_legal, names_ccb, device_of}
use Rattle.event_rules.proofs.SendLemmas.{IsSend, send_from_next}
use Rattle.event_rules.proofs.LawLemmas.{allowed-legal_event}
use Rattle.event_rules.proofs.LimitLemmas.{legal-induction}
use Rattle.round_net.specs.Caps.{places, resource_openings, carries, is_free, openings_in, sends_in, cap}
use Rattle.round_net.proofs.PlaceLemmas.{places-push, openings_in-now}
use Rattle.round_net.proofs.LoadLemmas.{goes, goes-send, goes-other, submission-named}
use Rattle.event_rules.proofs.StandLemmas.{asks-send}

-- what a legal send says of its place
pub legal-send : (rules : Rules) (c : Topology) (es : List Event) (lane ccb : ℕ) → is_legal_event rules c (es, Send lane ccb) ≡ true → IsSend c es lane ccb
legal-send rules c es lane ccb legal =
    let asked = (allowed-legal_event rules c es (Send lane ccb) legal).1 in
    send_from_next c es lane ccb (and_parts (names_lane c lane && names_ccb es ccb) (is_next c es lane ccb) asked).1

device_of-submission : (es : List Event) (ccb : ℕ) (s : Submission) → submission es ccb ≡ Some s → device_of es ccb ≡ s.device
device_of-submission es ccb s found = ap (λ o. option_map_or (λ (t : Submission). t.device) o 0) found

-- the openings of a round never fall
openings_in-grows : (c : Topology) (es : List Event) (e : Event) (row r : ℕ) → openings_in c es row r ≤ openings_in c (es ++ e ∷ []) row r
unfolding openings_in
openings_in-grows c es e row r =
    let more : openings_in c (es ++ e ∷ []) row r ≡ option_map_or (λ before. resource_openings c before row) (slice_get (places es r ++ cond (round (es ++ e ∷ []) == r) ((es ++ e ∷ []) ∷ []) []) 0) 0 =
    ap (λ ps. option_map_or (λ before. resource_openings c before row) (slice_get ps 0) 0) (places-push es e r) in
    rw more (first_grows (λ before. resource_openings c before row) (places es r) (cond (round (es ++ e ∷ []) == r) ((es ++ e ∷ []) ∷ []) []))
  where
    first_grows : (value : List Event → ℕ) (ps qs : List (List Event)) → option_map_or value (slice_get ps 0) 0 ≤ option_map_or value (slice_get (ps ++ qs) 0) 0
    first_grows value [] qs = omega arith
    first_grows value (p ∷ ps) qs = omega arith

-- a device is on one adapter
on_one : (c : Topology) (a b d : ℕ) → is_on c a d ≡ true → is_on c b d ≡ true → a ≡ b
on_one c a b d h g = elim (slice_get c.devices d) as (λ o. option_map_or (λ (device : Device). device.bus == a) o false ≡ true → option_map_or (λ (device : Device). device.bus == b) o false ≡ true → a ≡ b) [
  | None ↦ λ h' g'. absurd cc
  | Some device ↦ λ h' g'. sym (eqb-true device.bus a h') ∙ eqb-true device.bus b g'
] h g

-- where a send may go, its device has an opening left, its adapter, and its link, if it is on one
device_left : (c : Topology) (es : List Event) (d : ℕ) → has_opening c es d ≡ true → count_by (goes (λ x. x == d) (round es)) (sendings es) < openings c es d
unfolding has_opening
device_left c es d h = ltb-true (count_by (goes_now_to es d) (sendings es)) (openings c es d) h

adapter_left : (c : Topology) (es : List Event) (a : ℕ) → adapter_has_opening c es a ≡ true → count_by (goes (is_on c a) (round es)) (sendings es) < adapter_openings c a
unfolding adapter_has_opening
adapter_left c es a h = ltb-true (count_by (goes_now_to_adapter c es a) (sendings es)) (adapter_openings c a) h

-- a device under a link is on an adapter that is on it
under_link : (c : Topology) (a l d : ℕ) → is_on c a d ≡ true → is_under c l d ≡ true → adapter_link c a ≡ Some l
under_link c a l d h g = elim (slice_get c.devices d) as (λ o. option_map_or (λ (device : Device). device.bus == a) o false ≡ true → option_map_or (λ (device : Device). option_map_or (λ k. k == l) (adapter_link c device.bus) false) o false ≡ true → adapter_link c a ≡ Some l) [
  | None ↦ λ h' g'. absurd cc
  | Some device ↦ λ h' g'. let at : device.bus ≡ a = eqb-true device.bus a h' in named l (adapter_link c a) (rw at at g')
] h g
  where
    named : (k : ℕ) (o : Option ℕ) → option_map_or (λ n. n == k) o false ≡ true → o ≡ Some k
    named k None e = absurd cc
    named k (Some n) e = ap (λ m. Some m) (eqb-true n k e)

link_left : (c : Topology) (es : List Event) (a l : ℕ) → adapter_link c a ≡ Some l → link_has_opening c es a ≡ true → count_by (goes (is_under c l) (round es)) (sendings es) < link_openings c l
unfolding link_has_opening
link_left c es a l is h =
    let left : nat_lt (count_by (goes_now_over_link c es l) (sendings es)) (link_openings c l) ≡ true = rw is at h in
    ltb-true (count_by (goes_now_over_link c es l) (sendings es)) (link_openings c l) left

-- so each row that it uses has one
opening_left : (c : Topology) (es : List Event) (lane ccb row : ℕ) (s : Submission) → IsSend c es lane ccb → submission es ccb ≡ Some s → carries c row s.device ≡ true → count_by (goes (carries c row) (round es)) (sendings es) < resource_openings c es row
unfolding resource_openings
opening_left c es lane ccb row s send found uses =
    let of_ccb = device_of-submission es ccb s found in
    let own : is_on c (lane_adapter c lane) s.device ≡ true = rw of_ccb at send.sendable.on in
    let n : ℕ = length c.devices in
    let m : ℕ = n + length c.adapters in
    elim (nat_lt row n) as (λ b. cond b (s.device == row) (cond (nat_lt row m) (is_on c (row - n) s.device) (is_under c (row - m) s.device)) ≡ true →
    count_by (goes (λ x. cond b (x == row) (cond (nat_lt row m) (is_on c (row - n) x) (is_under c (row - m) x))) (round es)) (sendings es) < cond b (openings c es row) (cond (nat_lt row m) (adapter_openings c (row - n)) (link_openings c (row - m)))) [
      | true ↦ λ to. let at : device_of es ccb ≡ row = of_ccb ∙ eqb-true s.device row to in device_left c es row (rw at at send.sendable.device_opening)
      | false ↦ elim (nat_lt row m) as (λ b. cond b (is_on c (row - n) s.device) (is_under c (row - m) s.device) ≡ true →
          count_by (goes (λ x. cond b (is_on c (row - n) x) (is_under c (row - m) x)) (round es)) (sendings es) < cond b (adapter_openings c (row - n)) (link_openings c (row - m))) [
            | true ↦ λ on.
                let at : lane_adapter c lane ≡ row - n = on_one c (lane_adapter c lane) (row - n) s.device own on in
                adapter_left c es (row - n) (rw at at send.sendable.adapter_opening)
            | false ↦ λ under. link_left c es (lane_adapter c lane) (row - m) (under_link c (lane_adapter c lane) (row - m) s.device own under) send.sendable.link_opening
          ]
    ] uses

-- the sends of each round that use an opening of a row are within its openings
abbrev KeepsOpenings : Topology → List Event → Type 0
KeepsOpenings c es = (row r : ℕ) → count_by (goes (carries c row) r) (sendings es) ≤ openings_in c es row r

keeps-send : (rules : Rules) (c : Topology) (es : List Event) (lane ccb : ℕ) → is_legal_event rules c (es, Send lane ccb) ≡ true → KeepsOpenings c es → KeepsOpenings c (es ++ Send lane ccb ∷ [])
keeps-send rules c es lane ccb legal h row r =
    let found = submission-named es ccb (asks-send rules c es lane ccb legal).0 in
    let s : Submission = found.0 in
    let grows = openings_in-grows c es (Send lane ccb) row r in
    let more = goes-send (carries c row) es lane ccb r s found.1 in
    let before = h row r in
    elim (carries c row s.device && (round es == r)) as (λ b. (carries c row s.device && (round es == r)) ≡ b → count_by (goes (carries c row) r) (sendings (es ++ Send lane ccb ∷ [])) ≡ count_by (goes (carries c row) r) (sendings es) + cond b 1 0 → count_by (goes (carries c row) r) (sendings (es ++ Send lane ccb ∷ [])) ≤ openings_in c (es ++ Send lane ccb ∷ []) row r) [
      | true ↦ λ is g.
          let parts = and_parts (carries c row s.device) (round es == r) is in
          let now : round es ≡ r = eqb-true (round es) r parts.1 in
          let left : count_by (goes (carries c row) r) (sendings es) < openings_in c es row r = rw (← now, openings_in-now c row es) (opening_left c es lane ccb row s (legal-send rules c es lane ccb legal) found.1 parts.0) in
          omega arith
      | false ↦ λ is g. omega arith
    ] refl more

keeps-other : (c : Topology) (es : List Event) (e : Event) → sending_of (es, e) ≡ None → KeepsOpenings c es → KeepsOpenings c (es ++ e ∷ [])
keeps-other c es e none h row r =
    let grows = openings_in-grows c es e row r in
    let same = goes-other (carries c row) es e r none in
    let before = h row r in
    omega arith

keeps-step : (rules : Rules) (c : Topology) (es : List Event) (e : Event) → is_legal_event rules c (es, e) ≡ true → KeepsOpenings c es → KeepsOpenings c (es ++ e ∷ [])
keeps-step rules c es (Send lane ccb) legal h = keeps-send rules c es lane ccb legal h
keeps-step rules c es e legal h = keeps-other c es e refl h

keeps-none : (c : Topology) → KeepsOpenings c []
unfolding sendings
keeps-none c row r = omega arith

pub sends_in-openings : (rules : Rules) (c : Topology) (es : List Event) (row r : ℕ) → is_legal rules c es ≡ true → sends_in c es row r ≤ openings_in c es row r
unfolding is_legal sends_in
sends_in-openings rules c es row r legal = legal-induction rules c (KeepsOpenings c) (keeps-step rules c) [] es legal (keeps-none c) row r

-- so they are within its cap
pub sends_in-cap : (rules : Rules) (c : Topology) (es : List Event) (row r : ℕ) → is_legal rules c es ≡ true → sends_in c es row r ≤ cap c es row r
unfolding cap
sends_in-cap rules c es row r legal =
    let le = sends_in-openings rules c es row r legal in
    elim (is_free c es row r) as (λ b. sends_in c es row r ≤ cond b (openings_in c es row r) (sends_in c es row r)) [ true ↦ le | false ↦ omega arith ]
