-- a send is legal where it is of its adapter's next stay
use Rattle.std.proofs.Common.{◌≡◌, ℕ, ◌<◌, true, List, length, Option, Some, None, refl, ap, slice_get, ◌==◌, ◌&&◌}
use Rattle.std.specs.Option.{option_map, option_map_or}
use Rattle.std.proofs.lemmas.Bool.{and_parts, and_from, eqb-true, eq-eqb, lt-ltb}
use Rattle.std.proofs.lemmas.Option.{slice_get_within}
use Rattle.xpt_state.specs.Words.{Topology, is_some_and, submission, submissions, commands, next, Event, Send, Passage, Submission, is_stay_of, names_lane, lane_adapter, Rules, names_ccb, is_next, is_legal_event}
use Rattle.cam_types.proofs.LaneLemmas.{lane_named}
use Rattle.event_rules.proofs.LawLemmas.{allowed-legal_event}
use Rattle.event_rules.proofs.NextLemmas.{next_stands}

-- a stay's CCB was submitted
ccb_of_stay : (es : List Event) (p : Passage) (o : Option Submission) → submission es p.ccb ≡ o → is_some_and (is_stay_of p) o ≡ true → names_ccb es p.ccb ≡ true
ccb_of_stay es p None is h = absurd (cc)
ccb_of_stay es p (Some s) is h = lt-ltb p.ccb (commands es) (slice_get_within (submissions es) p.ccb s is)

is_next_here : (c : Topology) (es : List Event) (lane : ℕ) (p : Passage) → names_lane c lane ≡ true → next c es (lane_adapter c lane) ≡ Some p → is_next c es lane p.ccb ≡ true
unfolding is_next
is_next_here c es lane p there is = rw (lane_named c lane there, is) (eq-eqb p.ccb p.ccb refl)

pub next_is_legal : (rules : Rules) (c : Topology) (es : List Event) (lane : ℕ) (p : Passage) → length es < rules.events → names_lane c lane ≡ true → next c es (lane_adapter c lane) ≡ Some p → is_legal_event rules c (es, Send lane p.ccb) ≡ true
unfolding is_legal_event
next_is_legal rules c es lane p short there is =
    let stands = next_stands c es (lane_adapter c lane) p is in
    and_from _ _ (lt-ltb (length es) rules.events short)
    (and_from _ _ (and_from _ _ there (ccb_of_stay es p (submission es p.ccb) refl stands.of_its_ccb)) (is_next_here c es lane p there is))

next_of : (ccb : ℕ) (o : Option Passage) → is_some_and (λ (p : Passage). p.ccb == ccb) o ≡ true → option_map (λ (p : Passage). p.ccb) o ≡ Some ccb
next_of ccb None h = absurd (cc)
next_of ccb (Some p) h = ap Some (eqb-true p.ccb ccb h)

lane_turn : (c : Topology) (es : List Event) (lane ccb : ℕ) (o : Option ℕ) → slice_get c.lanes lane ≡ o → is_some_and (λ a. is_some_and (λ (p : Passage). p.ccb == ccb) (next c es a)) o ≡ true →
    option_map (λ (p : Passage). p.ccb) (next c es (lane_adapter c lane)) ≡ Some ccb
lane_turn c es lane ccb None is h = absurd (cc)
lane_turn c es lane ccb (Some a) is h =
    let at : lane_adapter c lane ≡ a = ap (λ o. option_map_or (λ n. n) o 0) is in
    rw at (next_of ccb (next c es a) h)

is_next_turn : (c : Topology) (es : List Event) (lane ccb : ℕ) → is_next c es lane ccb ≡ true → option_map (λ (p : Passage). p.ccb) (next c es (lane_adapter c lane)) ≡ Some ccb
unfolding is_next
is_next_turn c es lane ccb h = lane_turn c es lane ccb (slice_get c.lanes lane) refl h

pub legal_is_next : (rules : Rules) (c : Topology) (es : List Event) (lane ccb : ℕ) → is_legal_event rules c (es, Send lane ccb) ≡ true → option_map (λ (p : Passage). p.ccb) (next c es (lane_adapter c lane)) ≡ Some ccb
legal_is_next rules c es lane ccb legal =
    let asked = (allowed-legal_event rules c es (Send lane ccb) legal).1 in
    is_next_turn c es lane ccb (and_parts (names_lane c lane && names_ccb es ccb) (is_next c es lane ccb) asked).1
