-- the net of a complete history is sound
use Rattle.std.proofs.Common.{◌≡◌, ℕ, ◌<◌, ◌≤◌, Bool, true, false, cond, List, [], ◌∷◌, length, map, get_or, refl, arith, Some, None, ◌==◌, ◌&&◌, All, slice_get, nat_le, find, count_by}
use Rattle.std.specs.Option.{option_map}
use Rattle.std.proofs.lemmas.Bool.{and_parts, eqb-true, ltb-true}
use Rattle.std.proofs.lemmas.List.{length-map}
use Rattle.std.proofs.lemmas.List.Elements.{All-nil, All-cons, All-map}
use Rattle.std.proofs.lemmas.List.Sums.{AllPass-from_list_all}
use Rattle.cam_types.specs.declared.limits.TheConstants.{MAX_ROUNDS, MAX_STAYS}
use Rattle.round_net.specs.declared.price_range.TheConstants.{MAX_PRICE}
use Rattle.round_net.specs.Words.{Topology, IsConfig, commands, MAX_OPENINGS, is_some_and, round, submission, stays_begun, is_unsent, unsent, name_of, names_device, Event, Submission, Passage, history_rules, is_legal, is_in_range, is_stay_of, is_stay_in_range}
use Rattle.event_rules.proofs.RangeLemmas.{stays_in_range}
use Rattle.event_rules.proofs.LimitLemmas.{round_first, round_most, stays_most}
use Rattle.round_net.specs.Schedules.{IsAdmissible}
use Rattle.round_net.specs.Rows.{cell, instance_of_rows, StayRow}
use Rattle.round_net.specs.Sound.{IsNet, IsWithinHistory}
use Rattle.round_net.specs.Caps.{resource_count, carries, sends_in, cap}
use Rattle.round_net.specs.Nets.{stay_row, table, net_of, instance_of, live_of}
use Rattle.cam_types.proofs.ConfigLemmas.{weight_small}
use Rattle.round_net.proofs.FilledLemmas.{at_element, small_at, IsFitting, IsFilled, room_for, filled_admissible, filled_net}
use Rattle.round_net.proofs.CountLemmas.{count-map}
use Rattle.round_net.proofs.LoadLemmas.{covered-legal, sent-complete}
use Rattle.round_net.proofs.OpeningLemmas.{sends_in-cap}
use Rattle.round_net.proofs.SmallLemmas.{small_cap}
use Rattle.round_net.proofs.TableLemmas.{All-table}
use Rattle.round_net.proofs.WindowLemmas.{IsInWindow, windows-legal, last_round-le}

-- it is of a device of the configuration
pub device_in_range : (c : Topology) (es : List Event) (p : Passage) → is_stay_in_range c es p ≡ true → p.device < length c.devices
device_in_range c es p h = elim (submission es p.ccb) as (λ o. is_some_and (λ (s : Submission). is_in_range c s && is_stay_of p s) o ≡ true → p.device < length c.devices) [
  | None ↦ λ g. absurd cc
  | Some s ↦ λ g.
      let parts = and_parts (is_in_range c s) (is_stay_of p s) g in
      let named : names_device c s.device ≡ true = (and_parts (names_device c s.device) _ (and_parts (names_device c s.device && nat_le s.priority _) _ parts.0).0).0 in
      let same : s.device ≡ p.device = eqb-true s.device p.device (and_parts (s.device == p.device) (s.priority == p.priority) parts.1).0 in
      let lt = ltb-true s.device (length c.devices) named in
      omega arith
] h

device_of_stay : (c : Topology) (es : List Event) (s : ℕ) (p : Passage) → is_legal history_rules c es ≡ true → slice_get (stays_begun es) s ≡ Some p → p.device < length c.devices
device_of_stay c es s p legal e =
    device_in_range c es p (at_element (λ q. is_stay_in_range c es q ≡ true) (stays_begun es) s p (AllPass-from_list_all (is_stay_in_range c es) (stays_begun es) (stays_in_range history_rules c es legal)) e)

-- in a complete history each stay was sent
find_none : (t : Passage → Bool) (xs : List Passage) → option_map name_of (find t xs) ≡ None → All (λ x. t x ≡ false) xs
find_none t [] e = All-nil (λ x. t x ≡ false)
find_none t (x ∷ xs) e = elim (t x) as (λ b. t x ≡ b → option_map name_of (cond b (Some x) (find t xs)) ≡ None → All (λ y. t y ≡ false) (x ∷ xs)) [
  | true ↦ λ is g. absurd cc
  | false ↦ λ is g. All-cons (λ y. t y ≡ false) x xs is (find_none t xs g)
] refl e

all_sent : (es : List Event) → unsent es ≡ None → All (λ p. is_unsent es p ≡ false) (stays_begun es)
unfolding unsent
all_sent es e = find_none (is_unsent es) (stays_begun es) e

-- each stay fits the configuration
fits : (c : Topology) (es : List Event) → IsConfig c → is_legal history_rules c es ≡ true → unsent es ≡ None → All (λ (p : Passage). IsFitting c (round es) (stay_row c es p)) (stays_begun es)
unfolding stay_row
fits c es config legal complete = λ k d within.
    let p = get_or (stays_begun es) k d in
    let windows = windows-legal history_rules c es legal in
    let window : IsInWindow es p = windows.each k d within in
    let sent : is_unsent es p ≡ false = all_sent es complete k d within in
    record {
      device = device_in_range c es p (AllPass-from_list_all (is_stay_in_range c es) (stays_begun es) (stays_in_range history_rules c es legal) k d within);
      first = window.first;
      arrived = window.arrived sent;
      within = window.within sent;
      last = last_round-le es p (λ k d within. (windows.each k d within).soon);
      some_weight = (weight_small c p.priority config).0;
      small_weight = (weight_small c p.priority config).1;
    }

-- no row has more stays in a round than its cap
held : (c : Topology) (es : List Event) → is_legal history_rules c es ≡ true → unsent es ≡ None → (row r : ℕ) → count_by (λ (s : StayRow). carries c row s.device && (s.live == r)) (map (stay_row c es) (stays_begun es)) ≤ cap c es row r
unfolding stay_row sends_in
held c es legal complete row r =
    let there = count-map (λ (s : StayRow). carries c row s.device && (s.live == r)) (stay_row c es) (stays_begun es) in
    let sent = sent-complete (carries c row) es r (all_sent es complete) in
    let covered = (covered-legal (carries c row) history_rules c es legal).covered r in
    let capped : sends_in c es row r ≤ cap c es row r = sends_in-cap history_rules c es row r legal in
    omega arith

history_filled : (c : Topology) (es : List Event) → IsConfig c → is_legal history_rules c es ≡ true → unsent es ≡ None → IsFilled c (round es) (map (stay_row c es) (stays_begun es)) (cap c es) MAX_PRICE
history_filled c es config legal complete = record {
  some_rounds = round_first es;
  few_rounds = omega (arith, round_most c es legal);
  few_stays = omega (arith, length-map (stays_begun es) (stay_row c es), stays_most c es legal);
  each = All-map (IsFitting c (round es)) (stay_row c es) (stays_begun es) (fits c es config legal complete);
  small_cap = λ row r within first last. omega (arith, small_cap history_rules c es row r config legal);
  small_price = omega arith;
  price_room = room_for (round es) MAX_ROUNDS MAX_PRICE (round_most c es legal) (omega arith);
  held = λ row r within first last. held c es legal complete row r;
}

-- the live schedule of a complete history is admissible
pub live_admissible : (c : Topology) (es : List Event) → IsConfig c → is_legal history_rules c es ≡ true → unsent es ≡ None → IsAdmissible (instance_of c es) (live_of c es)
unfolding net_of
live_admissible c es config legal complete = filled_admissible c (commands es) (round es) (map (stay_row c es) (stays_begun es)) (cap c es) MAX_PRICE config (history_filled c es config legal complete)

pub net_is_net : (c : Topology) (es : List Event) → IsConfig c → is_legal history_rules c es ≡ true → unsent es ≡ None → IsNet (net_of c es)
unfolding net_of
net_is_net c es config legal complete = filled_net c (commands es) (round es) (map (stay_row c es) (stays_begun es)) (cap c es) MAX_PRICE config (history_filled c es config legal complete)

-- it is within the limits of histories
pub history_size : (c : Topology) (es : List Event) → is_legal history_rules c es ≡ true → ((instance_of c es).rounds ≤ MAX_ROUNDS) × ((instance_of c es).stays ≤ MAX_STAYS)
unfolding instance_of_rows net_of
history_size c es legal = (round_most c es legal, omega (arith, length-map (stays_begun es) (stay_row c es), stays_most c es legal))

small_caps : (c : Topology) (es : List Event) → IsConfig c → is_legal history_rules c es ≡ true → (row r : ℕ) → (instance_of c es).cap row r ≤ MAX_OPENINGS
unfolding instance_of_rows net_of
small_caps c es config legal row r =
    small_at (table (resource_count c) (round es) (cap c es)) (cell (round es) row r) MAX_OPENINGS (All-table (λ n. n ≤ MAX_OPENINGS) (resource_count c) (round es) (cap c es) (round_first es) (λ other q within first last. small_cap history_rules c es other q config legal))

pub within_history : (c : Topology) (es : List Event) → IsConfig c → is_legal history_rules c es ≡ true → IsWithinHistory (instance_of c es)
unfolding instance_of_rows net_of
within_history c es config legal = record {
  rounds = (history_size c es legal).0;
  stays = (history_size c es legal).1;
  cap = small_caps c es config legal;
  price = refl;
}
