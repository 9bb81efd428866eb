-- the stays of a complete history within their windows and the caps of rows
use Rattle.std.proofs.Common.{◌≡◌, ℕ, ◌<◌, ◌≤◌, Bool, true, false, cond, List, [], ◌∷◌, length, get_or, refl, arith, Some, None, ◌==◌, ◌&&◌, All, nat_le, find, count_by}
use Rattle.std.specs.Option.{option_map}
use Rattle.std.proofs.lemmas.Bool.{and_parts, eqb-true, leb-true}
use Rattle.std.proofs.lemmas.List.Elements.{All-nil, All-cons}
use Rattle.std.proofs.lemmas.List.Sums.{AllPass-from_list_all}
use Rattle.cam_types.specs.Topology.{Topology}
use Rattle.cam_types.specs.Questions.{names_device}
use Rattle.cam_types.specs.declared.limits.TheConstants.{MAX_PRIORITY}
use Rattle.event_rules.specs.Counts.{round, submission}
use Rattle.event_rules.specs.Event.{is_some_and}
use Rattle.event_rules.specs.Laws.{is_in_range, is_stay_of, is_stay_in_range}
use Rattle.event_rules.specs.Legal.{history_rules, is_legal}
use Rattle.event_rules.specs.Live.{live_round}
use Rattle.event_rules.specs.Stays.{stays_begun, is_unsent, unsent, name_of}
use Rattle.event_rules.specs.declared.submission.Submission.{Submission}
use Rattle.event_rules.specs.declared.event.Event.{Event}
use Rattle.event_rules.specs.declared.passage.Passage.{Passage}
use Rattle.event_rules.proofs.RangeLemmas.{stays_in_range}
use Rattle.round_net.specs.Caps.{carries, sends_in, cap}
use Rattle.round_net.specs.Nets.{last_round}
use Rattle.round_net.proofs.LoadLemmas.{covered-legal, sent-complete}
use Rattle.round_net.proofs.OpeningLemmas.{sends_in-cap}
use Rattle.round_net.proofs.NetLemmas.{device_in_range}
use Rattle.round_net.proofs.WindowLemmas.{windows-legal, last_round-le}

-- in a complete history each stay was sent
find_none : (t : Passage → Bool) (xs : List Passage) → option_map name_of (find t xs) ≡ None → All (λ x. t x ≡ false) xs
find_none t [] e = All-nil (λ x. t x ≡ false)
find_none t (x ∷ xs) e = elim (t x) as (λ b. t x ≡ b → option_map name_of (cond b (Some x) (find t xs)) ≡ None → All (λ y. t y ≡ false) (x ∷ xs)) [
  | true ↦ λ is g. absurd cc
  | false ↦ λ is g. All-cons (λ y. t y ≡ false) x xs is (find_none t xs g)
] refl e

pub all_sent : (es : List Event) → unsent es ≡ None → All (λ p. is_unsent es p ≡ false) (stays_begun es)
unfolding unsent
all_sent es e = find_none (is_unsent es) (stays_begun es) e

-- a stay's priority is one
priority_in_range : (c : Topology) (es : List Event) (p : Passage) → is_stay_in_range c es p ≡ true → p.priority ≤ MAX_PRIORITY
priority_in_range c es p h = elim (submission es p.ccb) as (λ o. is_some_and (λ (s : Submission). is_in_range c s && is_stay_of p s) o ≡ true → p.priority ≤ MAX_PRIORITY) [
  | None ↦ λ g. absurd cc
  | Some s ↦ λ g.
      let parts = and_parts (is_in_range c s) (is_stay_of p s) g in
      let listed = leb-true s.priority MAX_PRIORITY (and_parts (names_device c s.device) _ (and_parts (names_device c s.device && nat_le s.priority _) _ parts.0).0).1 in
      let same : s.priority ≡ p.priority = eqb-true s.priority p.priority (and_parts (s.device == p.device) (s.priority == p.priority) parts.1).1 in
      omega arith
] h

-- a stay that was sent in its window, which lies within the rounds, to a device of the configuration
pub record IsSentInWindow (c : Topology) (es : List Event) (p : Passage) : Type 0 where
  pub device : p.device < length c.devices
  pub priority : p.priority ≤ MAX_PRIORITY
  pub first : 1 ≤ p.arrival
  pub arrived : p.arrival ≤ live_round es p
  pub within : live_round es p ≤ last_round es p
  pub last : last_round es p ≤ round es

pub sent_in_windows : (c : Topology) (es : List Event) → is_legal history_rules c es ≡ true → unsent es ≡ None → All (IsSentInWindow c es) (stays_begun es)
sent_in_windows c es legal complete = λ k d within.
    let p = get_or (stays_begun es) k d in
    let windows = windows-legal history_rules c es legal in
    let window = windows.each k d within in
    let sent : is_unsent es p ≡ false = all_sent es complete k d within in
    let ranged = AllPass-from_list_all (is_stay_in_range c es) (stays_begun es) (stays_in_range history_rules c es legal) k d within in
    record {
      device = device_in_range c es p ranged;
      priority = priority_in_range c es p ranged;
      first = window.first;
      arrived = window.arrived sent;
      within = window.within sent;
      last = last_round-le es p (λ k d within. (windows.each k d within).soon);
    }

-- no row was sent more in a round than its cap
pub resource_holds : (c : Topology) (es : List Event) → is_legal history_rules c es ≡ true → unsent es ≡ None → (row r : ℕ) → count_by (λ (p : Passage). carries c row p.device && (live_round es p == r)) (stays_begun es) ≤ cap c es row r
unfolding sends_in
resource_holds c es legal complete row r =
    let sent = sent-complete (carries c row) es r (all_sent es complete) in
    let covered = (covered-legal (carries c row) history_rules c es legal).covered r in
    let capped : sends_in c es row r ≤ cap c es row r = sends_in-cap history_rules c es row r legal in
    omega arith
