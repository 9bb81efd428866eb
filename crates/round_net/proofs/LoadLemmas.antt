-- no more stays were sent to a device, or to an adapter, in a round than there were sends
use Rattle.std.proofs.Common.{◌≡◌, ℕ, ◌+◌, ◌<◌, ◌≤◌, Bool, true, false, cond, List, [], ◌∷◌, ◌++◌, length, get_or, refl, sym, ap, ◌∙◌, arith, Option, Some, None, zero-add, not, ◌==◌, ◌&&◌, ◌||◌, count_by, option_to_list, All, slice_get}
use Rattle.std.proofs.lemmas.Bool.{and_parts, eqb-true, eq-eqb}
use Rattle.std.proofs.lemmas.Option.{slice_get-get_or}
use Rattle.std.proofs.lemmas.List.Sums.{AllPass-from_list_all}
use Rattle.std.proofs.Math.Bool.{and-false}
use Rattle.round_net.specs.Words.{Topology, is_some_and, is_send_of, round, commands, submissions, submission, sendings, sending_of, stays_begun, stay_begun, is_unsent, waiting, live_round, Event, Send, Submission, Passage, Sending, Rules, is_legal_event, is_legal, is_stay_of}
use Rattle.event_rules.proofs.PushLaws.{is_unsent-push, born_unsent, stays_begun-push, sendings-push, places-stays_begun, place-stay_begun}
use Rattle.event_rules.proofs.LimitLemmas.{legal-induction}
use Rattle.event_rules.proofs.StayLemmas.{is_of_its_ccb, of_its_ccb-stays_begun}
use Rattle.round_net.proofs.CountLemmas.{count_by-append, count_by-same, count_by-none, count_by-either, count_by-weaker, count_by-filter}
use Rattle.xpt_core.proofs.SentLemmas.{live_round-sent, live_round-sending}
use Rattle.event_rules.proofs.TotalLaws.{is_of, unsent_count}
use Rattle.event_rules.proofs.StandLemmas.{AreStates, asks-send, unsent-most, states_step, states_none}

-- the stay was sent in the round, to a device that the test takes
unfoldable pub was_sent : (ℕ → Bool) → List Event → ℕ → Passage → Bool
was_sent f es r p = not (is_unsent es p) && (f p.device && (live_round es p == r))

-- a send in the round, to a device that the test takes
abbrev pub goes : (ℕ → Bool) → ℕ → Sending → Bool
goes f r s = f s.device && (s.round == r)

-- it waits, and the event sends it, in the round and to such a device
is_sending : (ℕ → Bool) → List Event → Event → ℕ → Passage → Bool
is_sending f es e r p = (is_unsent es p && is_send_of p.ccb e) && (f p.device && (round es == r))

or_false : (b : Bool) → b ≡ (b || false)
or_false true = refl
or_false false = refl

-- it was sent so far, or the event sends it
was_sent-push : (f : ℕ → Bool) (es : List Event) (e : Event) (r : ℕ) (p : Passage) → p.place < length es → was_sent f (es ++ e ∷ []) r p ≡ (was_sent f es r p || is_sending f es e r p)
unfolding was_sent is_sending
was_sent-push f es e r p lt =
    rw (is_unsent-push es e p lt) (elim (is_unsent es p) as (λ u. is_unsent es p ≡ u → (not (u && not (is_send_of p.ccb e)) && (f p.device && (live_round (es ++ e ∷ []) p == r))) ≡ ((not u && (f p.device && (live_round es p == r))) || ((u && is_send_of p.ccb e) && (f p.device && (round es == r))))) [
      | false ↦ λ sent. rw (live_round-sent es e p lt sent) (or_false (f p.device && (live_round es p == r)))
      | true ↦ λ unsent. elim (is_send_of p.ccb e) as (λ b. is_send_of p.ccb e ≡ b → (not (true && not b) && (f p.device && (live_round (es ++ e ∷ []) p == r))) ≡ ((true && b) && (f p.device && (round es == r)))) [
        | true ↦ λ sends. rw (live_round-sending es e p lt unsent sends) refl
        | false ↦ λ other. refl
      ] refl
    ] refl)

-- a stay that begins wasn't sent
born_none : (f : ℕ → Bool) (es : List Event) (e : Event) (r : ℕ) (o : Option Passage) → stay_begun (es, e) ≡ o → count_by (was_sent f (es ++ e ∷ []) r) (option_to_list o) ≡ 0
unfolding was_sent
born_none f es e r None is = refl
born_none f es e r (Some p) is = rw (born_unsent es e p (place-stay_begun (es, e) p is)) refl

-- how many were sent after one event more
sent-more : (f : ℕ → Bool) (es : List Event) (e : Event) (r : ℕ) → count_by (was_sent f (es ++ e ∷ []) r) (stays_begun (es ++ e ∷ [])) ≤ count_by (was_sent f es r) (stays_begun es) + count_by (is_sending f es e r) (stays_begun es)
sent-more f es e r =
    let parts : count_by (was_sent f (es ++ e ∷ []) r) (stays_begun (es ++ e ∷ [])) ≡ count_by (was_sent f (es ++ e ∷ []) r) (stays_begun es) + count_by (was_sent f (es ++ e ∷ []) r) (option_to_list (stay_begun (es, e))) =
    ap (count_by (was_sent f (es ++ e ∷ []) r)) (stays_begun-push es e) ∙ count_by-append (was_sent f (es ++ e ∷ []) r) (stays_begun es) (option_to_list (stay_begun (es, e))) in
    let none = born_none f es e r (stay_begun (es, e)) refl in
    let each = count_by-either (was_sent f es r) (is_sending f es e r) (was_sent f (es ++ e ∷ []) r) (stays_begun es) (λ k d lt. was_sent-push f es e r (get_or (stays_begun es) k d) (places-stays_begun es k d lt)) in
    omega arith

-- an event that is no send sends none
none_sending : (f : ℕ → Bool) (es : List Event) (e : Event) (r : ℕ) → ((p : Passage) → is_send_of p.ccb e ≡ false) → count_by (is_sending f es e r) (stays_begun es) ≡ 0
unfolding is_sending
none_sending f es e r other = count_by-none (is_sending f es e r) (stays_begun es) (λ k d lt. rw (other (get_or (stays_begun es) k d)) (cases (is_unsent es (get_or (stays_begun es) k d)) _))
  where
    cases : (b c : Bool) → ((b && false) && c) ≡ false
    cases true c = refl
    cases false c = refl

-- of the stays that a send sends there is one, of the CCB's device
device_of_stay : (es : List Event) (p : Passage) (ccb : ℕ) (s : Submission) → is_of_its_ccb es p ≡ true → p.ccb ≡ ccb → submission es ccb ≡ Some s → s.device ≡ p.device
device_of_stay es p ccb s is at found =
    let own : is_some_and (is_stay_of p) (submission es p.ccb) ≡ true = is in
    let here : is_stay_of p s ≡ true = rw (at, found) at own in
    eqb-true s.device p.device (and_parts (s.device == p.device) (s.priority == p.priority) here).0

one_sending : (f : ℕ → Bool) (es : List Event) (lane ccb r : ℕ) (s : Submission) → AreStates es → submission es ccb ≡ Some s → count_by (is_sending f es (Send lane ccb) r) (stays_begun es) ≤ cond (f s.device && (round es == r)) 1 0
unfolding is_sending waiting
one_sending f es lane ccb r s states found =
    let one : unsent_count es ccb ≤ 1 = unsent-most es ccb (states.placed ccb) in
    let few : unsent_count es ccb ≡ count_by (λ p. is_unsent es p && is_of ccb p) (stays_begun es) = count_by-filter (is_unsent es) (is_of ccb) (stays_begun es) in
    elim (f s.device && (round es == r)) as (λ b. (f s.device && (round es == r)) ≡ b → count_by (is_sending f es (Send lane ccb) r) (stays_begun es) ≤ cond b 1 0) [
      | true ↦ λ is.
          let le : count_by (is_sending f es (Send lane ccb) r) (stays_begun es) ≤ count_by (λ p. is_unsent es p && is_of ccb p) (stays_begun es) =
          count_by-weaker (is_sending f es (Send lane ccb) r) (λ p. is_unsent es p && is_of ccb p) (stays_begun es) (λ k d lt sends.
          let p = get_or (stays_begun es) k d in
          let parts = and_parts (is_unsent es p && (ccb == p.ccb)) (f p.device && (round es == r)) sends in
          let both = and_parts (is_unsent es p) (ccb == p.ccb) parts.0 in
          rw (both.0, eq-eqb p.ccb ccb (sym (eqb-true ccb p.ccb both.1))) refl) in
          omega arith
      | false ↦ λ is.
          let none : count_by (is_sending f es (Send lane ccb) r) (stays_begun es) ≡ 0 = count_by-none (is_sending f es (Send lane ccb) r) (stays_begun es) (λ k d lt.
          let p = get_or (stays_begun es) k d in
          let own : is_of_its_ccb es p ≡ true = AllPass-from_list_all (is_of_its_ccb es) (stays_begun es) (of_its_ccb-stays_begun es) k d lt in
          elim (ccb == p.ccb) as (λ b. (ccb == p.ccb) ≡ b → ((is_unsent es p && b) && (f p.device && (round es == r))) ≡ false) [
            | true ↦ λ e.
                let at : s.device ≡ p.device = device_of_stay es p ccb s own (sym (eqb-true ccb p.ccb e)) found in
                let fails : (f p.device && (round es == r)) ≡ false = rw (← at) is in
                rw fails (and-false (is_unsent es p && true))
            | false ↦ λ e. middle_false (is_unsent es p) (f p.device && (round es == r))
          ] refl) in
          omega arith
    ] refl
  where
    middle_false : (b c : Bool) → ((b && false) && c) ≡ false
    middle_false true c = refl
    middle_false false c = refl

-- the sends after one send more
goes-push : (f : ℕ → Bool) (es : List Event) (e : Event) (r : ℕ) → count_by (goes f r) (sendings (es ++ e ∷ [])) ≡ count_by (goes f r) (sendings es) + count_by (goes f r) (option_to_list (sending_of (es, e)))
goes-push f es e r = ap (count_by (goes f r)) (sendings-push es e) ∙ count_by-append (goes f r) (sendings es) (option_to_list (sending_of (es, e)))

pub goes-send : (f : ℕ → Bool) (es : List Event) (lane ccb r : ℕ) (s : Submission) → submission es ccb ≡ Some s → count_by (goes f r) (sendings (es ++ Send lane ccb ∷ [])) ≡ count_by (goes f r) (sendings es) + cond (f s.device && (round es == r)) 1 0
goes-send f es lane ccb r s found =
    goes-push f es (Send lane ccb) r ∙ rw found (ap {B = ℕ} (λ n. count_by (goes f r) (sendings es) + n) (zero-add (cond (f s.device && (round es == r)) 1 0)))

pub goes-other : (f : ℕ → Bool) (es : List Event) (e : Event) (r : ℕ) → sending_of (es, e) ≡ None → count_by (goes f r) (sendings (es ++ e ∷ [])) ≡ count_by (goes f r) (sendings es)
goes-other f es e r none = goes-push f es e r ∙ rw none (omega arith)

-- what a named CCB was submitted as
pub submission-named : (es : List Event) (ccb : ℕ) → ccb < commands es → (s : Submission) × (submission es ccb ≡ Some s)
submission-named es ccb lt = elim (submission es ccb) as (λ o. submission es ccb ≡ o → (s : Submission) × (submission es ccb ≡ Some s)) [
  | Some s ↦ λ e. (s, e)
  | None ↦ λ e. absurd (named e)
] refl
  where
    named : submission es ccb ≡ None → ⊥
    named e = elim (submissions es) as (λ xs. ccb < length xs → slice_get xs ccb ≡ None → ⊥) [
      | [] ↦ λ l g. omega arith
      | x ∷ xs ↦ λ l g. let some = slice_get-get_or (x ∷ xs) ccb x l in cc
    ] lt e

-- not more were sent than there were sends
pub record IsCovered (f : ℕ → Bool) (es : List Event) : Type 0 where
  pub states : AreStates es
  pub covered : (r : ℕ) → count_by (was_sent f es r) (stays_begun es) ≤ count_by (goes f r) (sendings es)

covered-other : (f : ℕ → Bool) (es : List Event) (e : Event) (r : ℕ) → ((p : Passage) → is_send_of p.ccb e ≡ false) → sending_of (es, e) ≡ None → count_by (was_sent f es r) (stays_begun es) ≤ count_by (goes f r) (sendings es) → count_by (was_sent f (es ++ e ∷ []) r) (stays_begun (es ++ e ∷ [])) ≤ count_by (goes f r) (sendings (es ++ e ∷ []))
covered-other f es e r other none h =
    let more = sent-more f es e r in
    let zero' = none_sending f es e r other in
    let same = goes-other f es e r none in
    omega arith

covered-send : (f : ℕ → Bool) (rules : Rules) (c : Topology) (es : List Event) (lane ccb r : ℕ) → is_legal_event rules c (es, Send lane ccb) ≡ true → AreStates es → count_by (was_sent f es r) (stays_begun es) ≤ count_by (goes f r) (sendings es) → count_by (was_sent f (es ++ Send lane ccb ∷ []) r) (stays_begun (es ++ Send lane ccb ∷ [])) ≤ count_by (goes f r) (sendings (es ++ Send lane ccb ∷ []))
covered-send f rules c es lane ccb r legal states h =
    let found = submission-named es ccb (asks-send rules c es lane ccb legal).0 in
    let more = sent-more f es (Send lane ccb) r in
    let one = one_sending f es lane ccb r found.0 states found.1 in
    let same = goes-send f es lane ccb r found.0 found.1 in
    omega arith

covered-events : (f : ℕ → Bool) (rules : Rules) (c : Topology) (es : List Event) (e : Event) (r : ℕ) → is_legal_event rules c (es, e) ≡ true → AreStates es → count_by (was_sent f es r) (stays_begun es) ≤ count_by (goes f r) (sendings es) → count_by (was_sent f (es ++ e ∷ []) r) (stays_begun (es ++ e ∷ [])) ≤ count_by (goes f r) (sendings (es ++ e ∷ []))
covered-events f rules c es (Send lane ccb) r legal states h = covered-send f rules c es lane ccb r legal states h
covered-events f rules c es e r legal states h = covered-other f es e r (λ p. refl) refl h

covered-none : (f : ℕ → Bool) → IsCovered f []
unfolding stays_begun sendings
covered-none f = record { states = states_none; covered = λ r. omega arith }

pub covered-legal : (f : ℕ → Bool) (rules : Rules) (c : Topology) (es : List Event) → is_legal rules c es ≡ true → IsCovered f es
unfolding is_legal
covered-legal f rules c es legal = legal-induction rules c (IsCovered f)
    (λ before event here is. record {
      states = states_step rules c before event here is.states;
      covered = λ r. covered-events f rules c before event r here is.states (is.covered r);
    }) [] es legal (covered-none f)

-- where each stay was sent, those sent in a round are those whose live round it is
pub sent-complete : (f : ℕ → Bool) (es : List Event) (r : ℕ) → All (λ p. is_unsent es p ≡ false) (stays_begun es) → count_by (was_sent f es r) (stays_begun es) ≡ count_by (λ (p : Passage). f p.device && (live_round es p == r)) (stays_begun es)
unfolding was_sent
sent-complete f es r sent = count_by-same (was_sent f es r) (λ (p : Passage). f p.device && (live_round es p == r)) (stays_begun es) (λ k d lt. rw (sent k d lt) refl)
