-- what lanes have in hand and what they served, after one event more
use Rattle.std.proofs.Common.{◌≡◌, ◌≢◌, ℕ, Bool, true, false, cond, List, [], ◌∷◌, ◌++◌, length, set, refl, sym, ap, ◌∙◌, subst, Option, Some, None, inl, inr, append-nil, ◌==◌, ◌||◌, slice_get, option_to_list, option_and_then, IfSome, option_map, filter_map, eq-eqb, ne_eqb, eqb-true}
use Rattle.cam_types.proofs.ListLemmas.{prefixed-push}
use Rattle.sim_worker.specs.Words.{prefixed, Outcome, is_some_and, is_send_of, is_done_of, is_send_or_done_of, last, is_in_flight, Event, Send, Done, Scenario, is_answer}
use Rattle.event_rules.proofs.ListFacts.{filter_map-push}
use Rattle.event_rules.proofs.StateLaws.{last-push, is_in_flight-push}
use Rattle.std.proofs.lemmas.List.{map-append}
use Rattle.sim_worker.specs.Ports.{PortState, answer_at, first_answers, outcomes, Served}
use Rattle.event_rules.proofs.ShareLaws.{same_number, flies-send}
use Rattle.sim_worker.proofs.PortLemmas.{given-push}
use Rattle.sim_worker.specs.Runs.{lane_of, sender, outcome_by, outcomes_by}
use Rattle.sim_worker.specs.Work.{HasServed, AreLanesAt, IsInHand, AreInHand, outcome_in_hand, Hand, Lane}
use Rattle.sim_worker.proofs.ListFacts.{set_at}
use Rattle.sim_worker.proofs.RunListFacts.{get_in_set, set_beside}

sender_cases : (e : Event) (t : Bool) (o : Option Event) → option_and_then lane_of (cond t (Some e) o) ≡ cond t (lane_of e) (option_and_then lane_of o)
sender_cases e true o = refl
sender_cases e false o = refl

pub sender-push : (es : List Event) (e : Event) (c : ℕ) → sender (es ++ e ∷ []) c ≡ cond (is_send_of c e) (lane_of e) (sender es c)
unfolding sender
sender-push es e c = ap (option_and_then lane_of) (last-push (is_send_of c) es e) ∙ sender_cases e (is_send_of c e) (last (is_send_of c) es)

pub outcomes_by-push : (lane : ℕ) (es : List Event) (e : Event) → outcomes_by lane (es ++ e ∷ []) ≡ outcomes_by lane es ++ option_to_list (outcome_by lane (es, e))
unfolding outcomes_by
outcomes_by-push lane es e = ap (filter_map (outcome_by lane)) (prefixed-push es e) ∙ filter_map-push (outcome_by lane) (prefixed es) (es, e)

or_none : (a b : Bool) → (a || b) ≡ false → (a ≡ false) × (b ≡ false)
or_none true b h = absurd (cc)
or_none false b h = (refl, h)

-- an event that neither sends nor completes the CCB leaves it where it is
pub flies_still : (es : List Event) (e : Event) (c : ℕ) → is_send_or_done_of c e ≡ false → is_in_flight (es ++ e ∷ []) c ≡ is_in_flight es c
flies_still es e c none = is_in_flight-push es e c ∙ rw none refl

pub sender_still : (es : List Event) (e : Event) (c : ℕ) → is_send_or_done_of c e ≡ false → sender (es ++ e ∷ []) c ≡ sender es c
sender_still es e c none = sender-push es e c ∙ rw ((or_none (is_send_of c e) (is_done_of c e) none).0) refl

-- the command in hand stays in flight
abbrev pub in_hand : (lane : ℕ) (es : List Event) (h : Hand) → Type 0
in_hand lane es h = (is_in_flight es h.ccb ≡ true) × (sender es h.ccb ≡ Some lane)

hand_still : (lane : ℕ) (es : List Event) (e : Event) (o : Option Hand) → IfSome o (λ (h : Hand). is_send_or_done_of h.ccb e ≡ false) → IfSome o (in_hand lane es) → IfSome o (in_hand lane (es ++ e ∷ []))
hand_still lane es e None apart h = tt
hand_still lane es e (Some x) apart h = (flies_still es e x.ccb apart ∙ h.0, sender_still es e x.ccb apart ∙ h.1)

-- an event that neither completes a command of the lane nor concerns the command in hand leaves the lane where it is
pub has_served-other : (s : Scenario) (lane : ℕ) (es : List Event) (e : Event) (w : Lane) → outcome_by lane (es, e) ≡ None → IfSome w.hand (λ (h : Hand). is_send_or_done_of h.ccb e ≡ false) → HasServed s lane es w → HasServed s lane (es ++ e ∷ []) w
has_served-other s lane es e w none apart h = record {
  number = h.number;
  answers = h.answers;
  given = h.given;
  served = h.served ∙ ap (λ front. front ++ outcome_in_hand w.hand) (sym (outcomes_by-push lane es e ∙ rw none (append-nil (outcomes_by lane es))));
  hand = hand_still lane es e w.hand apart h.hand;
  answer = h.answer;
}

-- an event of another kind
abbrev pub is_lane_event : Event → Bool
is_lane_event (Send lane ccb) = true
is_lane_event (Done ccb outcome) = true
is_lane_event _ = false

outcome_none : (lane : ℕ) (es : List Event) (e : Event) → is_lane_event e ≡ false → outcome_by lane (es, e) ≡ None
outcome_none lane es (Send l ccb) h = absurd (cc)
outcome_none lane es (Done ccb outcome) h = absurd (cc)
outcome_none lane es _ h = refl

concerns_none : (e : Event) (c : ℕ) → is_lane_event e ≡ false → is_send_or_done_of c e ≡ false
concerns_none (Send l ccb) c h = absurd (cc)
concerns_none (Done ccb outcome) c h = absurd (cc)
concerns_none _ c h = refl

hand_apart : (e : Event) (o : Option Hand) → is_lane_event e ≡ false → IfSome o (λ (h : Hand). is_send_or_done_of h.ccb e ≡ false)
hand_apart e None h = tt
hand_apart e (Some x) h = concerns_none e x.ccb h

pub lanes-other : (s : Scenario) (es : List Event) (e : Event) (ws : List Lane) → is_lane_event e ≡ false → AreLanesAt s es ws → AreLanesAt s (es ++ e ∷ []) ws
lanes-other s es e ws none h = λ lane w there. has_served-other s lane es e w (outcome_none lane es e none) (hand_apart e w.hand none) (h lane w there)

pub flights-other : (es : List Event) (e : Event) (ws : List Lane) → is_lane_event e ≡ false → AreInHand es ws → AreInHand (es ++ e ∷ []) ws
flights-other es e ws none h = λ ccb flies. h ccb (sym (flies_still es e ccb (concerns_none e ccb none)) ∙ flies)

some_same : (a b : ℕ) → Some a ≡ Some b → a ≡ b
some_same a b e = cc

false_not_true : false ≡ true → ⊥
false_not_true e = absurd (cc)

none_not_some : (c : ℕ) → None ≡ Some c → ⊥
none_not_some c e = absurd (cc)

-- what stands at a place is one
same_at : (ws : List Lane) (lane k : ℕ) (w x : Lane) → slice_get ws lane ≡ Some w → slice_get ws k ≡ Some x → k ≡ lane → x ≡ w
same_at ws lane k w x here there at = cc

-- the CCB of another lane's command in hand is another's
other_sender : (es : List Event) (lane k ccb : ℕ) (o : Option Hand) → k ≢ lane → sender es ccb ≡ Some lane → IfSome o (in_hand k es) → IfSome o (λ (h : Hand). (ccb == h.ccb) ≡ false)
other_sender es lane k ccb None ne by h = tt
other_sender es lane k ccb (Some x) ne by h = ne_eqb ccb x.ccb (λ same. ne (some_same k lane (sym h.1 ∙ ap (sender es) (sym same) ∙ by)))

-- completions
is_other_lane : (lane k : ℕ) (o : Option ℕ) → k ≢ lane → o ≡ Some lane → is_some_and (λ l. l == k) o ≡ false
is_other_lane lane k o ne is = rw is (ne_eqb lane k (λ e. ne (sym e)))

done_by_other : (es : List Event) (lane k ccb : ℕ) (outcome : Outcome) → k ≢ lane → sender es ccb ≡ Some lane → outcome_by k (es, Done ccb outcome) ≡ None
done_by_other es lane k ccb outcome ne by = rw (is_other_lane lane k (sender es ccb) ne by) refl

done_by_lane : (es : List Event) (lane ccb : ℕ) (outcome : Outcome) → sender es ccb ≡ Some lane → outcome_by lane (es, Done ccb outcome) ≡ Some outcome
done_by_lane es lane ccb outcome by = rw (by, same_number lane) refl

pub lanes-done : (s : Scenario) (es : List Event) (ws : List Lane) (lane : ℕ) (w new : Lane) (h : Hand) → slice_get ws lane ≡ Some w → w.hand ≡ Some h → new.number ≡ w.number → new.port ≡ w.port → new.hand ≡ None →
    AreLanesAt s es ws → AreLanesAt s (es ++ Done h.ccb h.outcome ∷ []) (set ws lane new)
lanes-done s es ws lane w new h here held number port empty all =
    let old = all lane w here in
    let mine : in_hand lane es h = subst (λ o. IfSome o (in_hand lane es)) held old.hand in
    λ k x at. elim (get_in_set ws lane k new x at) [
      | inl same ↦ subst (λ n. HasServed s n (es ++ Done h.ccb h.outcome ∷ []) x) (sym same.0) (subst (λ (v : Lane). HasServed s lane (es ++ Done h.ccb h.outcome ∷ []) v) (sym same.1) (record {
        number = number ∙ old.number;
        answers = ap (λ (p : PortState). p.answers) port ∙ old.answers;
        given = subst (λ (p : PortState). outcomes p.served ≡ first_answers p.answers (length p.served)) (sym port) old.given;
        served = ap (λ (p : PortState). outcomes p.served) port ∙ old.served ∙ ap (λ o. outcomes_by lane es ++ outcome_in_hand o) held
            ∙ sym (rw empty (append-nil (outcomes_by lane (es ++ Done h.ccb h.outcome ∷ [])) ∙ outcomes_by-push lane es (Done h.ccb h.outcome) ∙ ap (λ o. outcomes_by lane es ++ option_to_list o) (done_by_lane es lane h.ccb h.outcome mine.1)));
        hand = rw empty tt;
        answer = rw empty tt;
      }))
      | inr other ↦
          let beside = all k x other.1 in
          has_served-other s k es (Done h.ccb h.outcome) x (done_by_other es lane k h.ccb h.outcome other.0 mine.1) (other_sender es lane k h.ccb x.hand other.0 mine.1 beside.hand) beside
    ]

-- sends of a CCB that isn't in flight
not_flying : (es : List Event) (k lane ccb : ℕ) (o : Option Hand) → is_in_flight es ccb ≡ false → IfSome o (in_hand k es) → IfSome o (λ (h : Hand). is_send_or_done_of h.ccb (Send lane ccb) ≡ false)
not_flying es k lane ccb None grounded h = tt
not_flying es k lane ccb (Some x) grounded h = rw (ne_eqb ccb x.ccb (λ same. false_not_true (sym grounded ∙ ap (is_in_flight es) same ∙ h.0))) refl

pub lanes-send : (s : Scenario) (es : List Event) (ws : List Lane) (lane ccb : ℕ) (w new : Lane) (one : Served) → is_in_flight es ccb ≡ false → slice_get ws lane ≡ Some w → w.hand ≡ None → new.number ≡ w.number →
    new.port.answers ≡ w.port.answers → new.port.served ≡ w.port.served ++ one ∷ [] → one.outcome ≡ answer_at w.port.answers (length w.port.served) → new.hand ≡ Some (record { ccb = ccb; outcome = one.outcome }) → is_answer one.outcome ≡ true →
    AreLanesAt s es ws → AreLanesAt s (es ++ Send lane ccb ∷ []) (set ws lane new)
lanes-send s es ws lane ccb w new one grounded here empty number answers served next holds fine all =
    let old = all lane w here in
    λ k x at. elim (get_in_set ws lane k new x at) [
      | inl same ↦ subst (λ n. HasServed s n (es ++ Send lane ccb ∷ []) x) (sym same.0) (subst (λ (v : Lane). HasServed s lane (es ++ Send lane ccb ∷ []) v) (sym same.1) (record {
        number = number ∙ old.number;
        answers = answers ∙ old.answers;
        given = subst (λ a. outcomes new.port.served ≡ first_answers a (length new.port.served)) (sym answers) (subst (λ v. outcomes v ≡ first_answers w.port.answers (length v)) (sym served) (given-push w.port.answers w.port.served one next old.given));
        served = ap outcomes served ∙ map-append (λ (v : Served). v.outcome) w.port.served (one ∷ [])
            ∙ ap (λ front. front ++ one.outcome ∷ []) (old.served ∙ ap (λ o. outcomes_by lane es ++ outcome_in_hand o) empty ∙ append-nil (outcomes_by lane es))
            ∙ ap (λ front. front ++ one.outcome ∷ []) (sym (append-nil (outcomes_by lane es)) ∙ sym (outcomes_by-push lane es (Send lane ccb)))
            ∙ sym (ap (λ o. outcomes_by lane (es ++ Send lane ccb ∷ []) ++ outcome_in_hand o) holds);
        hand = rw holds (flies-send es lane ccb, sender-push es (Send lane ccb) ccb ∙ rw (same_number ccb) refl);
        answer = rw holds fine;
      }))
      | inr other ↦
          let beside = all k x other.1 in
          has_served-other s k es (Send lane ccb) x refl (not_flying es k lane ccb x.hand grounded beside.hand) beside
    ]

-- what flies is in some lane's hand, after a send and after a completion
pub flights-send : (es : List Event) (ws : List Lane) (lane ccb : ℕ) (w new : Lane) (o : Outcome) → slice_get ws lane ≡ Some w → w.hand ≡ None → new.hand ≡ Some (record { ccb = ccb; outcome = o }) → AreInHand es ws → AreInHand (es ++ Send lane ccb ∷ []) (set ws lane new)
flights-send es ws lane ccb w new o here empty holds h = λ c flies. elim (ccb == c) as (λ b. (ccb == c) ≡ b → IsInHand (set ws lane new) c) [
  | true ↦ λ same. (lane, new, set_at ws lane new w here, ap (option_map (λ (x : Hand). x.ccb)) holds ∙ ap (λ n. Some n) (eqb-true ccb c same))
  | false ↦ λ apart.
      let old = h c (sym (is_in_flight-push es (Send lane ccb) c ∙ rw apart refl) ∙ flies) in
      let k = old.0 in
      let x = old.1 in
      let there = old.2 in
      let has = old.3 in
      (k, x, set_beside ws lane k new (λ at_lane. none_not_some c (sym (ap (λ (v : Lane). option_map (λ (y : Hand). y.ccb) v.hand) (same_at ws lane k w x here there at_lane) ∙ ap (option_map (λ (y : Hand). y.ccb)) empty) ∙ has)) ∙ there, has)
] refl

pub flights-done : (es : List Event) (ws : List Lane) (lane : ℕ) (w new : Lane) (h : Hand) → slice_get ws lane ≡ Some w → w.hand ≡ Some h → AreInHand es ws → AreInHand (es ++ Done h.ccb h.outcome ∷ []) (set ws lane new)
flights-done es ws lane w new h here holds all = λ c flies. elim (h.ccb == c) as (λ b. (h.ccb == c) ≡ b → IsInHand (set ws lane new) c) [
  | true ↦ λ same. absurd (false_not_true (sym (is_in_flight-push es (Done h.ccb h.outcome) c ∙ rw same refl) ∙ flies))
  | false ↦ λ apart.
      let old = all c (sym (is_in_flight-push es (Done h.ccb h.outcome) c ∙ rw apart refl) ∙ flies) in
      let k = old.0 in
      let x = old.1 in
      let there = old.2 in
      let has = old.3 in (
        k,
        x,
        set_beside ws lane k new (λ at_lane.
            let same : Some h.ccb ≡ Some c = sym (ap (λ (v : Lane). option_map (λ (y : Hand). y.ccb) v.hand) (same_at ws lane k w x here there at_lane) ∙ ap (option_map (λ (y : Hand). y.ccb)) holds) ∙ has in
            false_not_true (sym apart ∙ eq-eqb h.ccb c (some_same h.ccb c same))) ∙ there,
        has,
      )
] refl
