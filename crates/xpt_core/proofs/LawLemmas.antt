-- what holds of the cases of all legal events
use Rattle.std.proofs.Common.{◌≡◌, ◌≢◌, ℕ, ◌+◌, ◌<◌, Bool, true, false, cond, List, [], ◌∷◌, ◌++◌, length, get_or, refl, sym, ap, subst, ◌∙◌, arith, Option, Some, None, append-nil, length-append, add-zero, ◌==◌, ◌||◌, not, filter, find, reverse, count_by, nat_le, option_to_list, slice_get, All, IsTrue, MatchOption, eq-eqb, eqb-true}
use Rattle.std.specs.List.{list_any, AllPairs}
use Rattle.std.specs.Option.{option_map, option_map_or}
use Rattle.std.proofs.Math.Seq.{get_or-append_seam}
use Rattle.std.proofs.lemmas.List.{reverse-append}
use Rattle.std.proofs.lemmas.List.Elements.{All-nil, All-cons, All-append, All-filter, filter_passes}
use Rattle.std.proofs.lemmas.List.Kept.{AllPairs-filter}
use Rattle.std.proofs.lemmas.List.Quantifiers.{all_pairs_push}
use Rattle.std.proofs.lemmas.List.Sums.{sum_by-cons}
use Rattle.xpt_core.specs.Words.{Topology, Outcome, classify, asks_requeue, asks_finish, is_some_and, concerns, ccb_of, is_erring, ccbs, commands, is_recovering, last_result, counted_requeues, retries_of, wants_requeue, wants_finish, Event, Done, Requeue, Finish, Rules, names_ccb, is_legal_event, is_legal, last_class, refusal, first_cause, are_stays_full, HistoryFull, StaysFull, NoCcb, NotRecovering, WrongDecision}
use Rattle.sense_class.specs.declared.class.Class as class
use Rattle.event_rules.proofs.CcbLaws.{event-induction, last_result-push, counted_requeues-push, not_ended-push}
use Rattle.event_rules.proofs.StateLaws.{is_recovering-push}
use Rattle.event_rules.proofs.StandLemmas.{states-legal, asks-done, in_flight_held, recovering_held}
use Rattle.xpt_core.specs.Ccbs.{is_alive}
use Rattle.xpt_core.specs.Cases.{Failure, failure_of, failures, failed_ccb, cases}
use Rattle.xpt_core.specs.Laws.{last_failure, is_for_room}
use Rattle.xpt_core.proofs.RowLaws.{submission-push}
use Rattle.xpt_core.proofs.CaseLists.{split-at}
use Rattle.xpt_core.proofs.CaseLaws.{failures-push, place-failure_of, new_case-same, new_case-none, cases-push, concerns-same, count_cases, case_recovers}
use Rattle.xpt_core.proofs.CcbLemmas.{length_cases, each_recovers}
use Rattle.xpt_core.proofs.PlaceLaws.{settled-legal}

-- where none counts, none passes
any_cases : (b r : Bool) (n : ℕ) → cond {A = ℕ} b 1 0 + n ≡ 0 → (n ≡ 0 → r ≡ false) → (b || r) ≡ false
any_cases true r n none h = absurd (omega (arith, none))
any_cases false r n none h = h (omega (arith, none))

any-none : (p : ℕ → Bool) (xs : List ℕ) → count_by p xs ≡ 0 → list_any p xs ≡ false
any-none p [] none = refl
any-none p (x ∷ xs) none = any_cases (p x) (list_any p xs) (count_by p xs) (sym (sum_by-cons (λ y. cond {A = ℕ} (p y) 1 0) x xs) ∙ none) (any-none p xs)

-- the first case
first_of : (es : List Event) (ks : List ℕ) → cases es ≡ ks → length (cases es) ≡ count_by (is_recovering es) (ccbs es) → MatchOption (slice_get ks 0) (list_any (is_recovering es) (ccbs es) ≡ false) (λ ccb. IsTrue (is_recovering es ccb))
first_of es [] is many = any-none (is_recovering es) (ccbs es) (sym many ∙ ap length is)
first_of es (k ∷ ks) is many =
    each_recovers es (k ∷ ks) 0 (λ i d lt. subst (λ xs. is_recovering es (get_or xs i d) ≡ true) is (case_recovers es i d (subst (λ xs. i < length xs) (sym is) lt)))

pub first_case_recovers : (rules : Rules) (c : Topology) (es : List Event) → is_legal rules c es ≡ true → MatchOption (slice_get (cases es) 0) (list_any (is_recovering es) (ccbs es) ≡ false) (λ ccb. IsTrue (is_recovering es ccb))
first_case_recovers rules c es legal = first_of es (cases es) refl (length_cases es (settled-legal rules c es legal))

-- the last failure of a CCB after one event more
last-none : (es : List Event) (e : Event) (k : ℕ) → failure_of (es, e) ≡ None → last_failure (es ++ e ∷ []) k ≡ last_failure es k
unfolding last_failure
last-none es e k none = rw (failures-push es e, none, append-nil (failures es)) refl

found_cases : (b : Bool) (f : Failure) (o : Option Failure) → option_map_or (λ (g : Failure). g.place) (cond b (Some f) o) 0 ≡ cond b f.place (option_map_or (λ (g : Failure). g.place) o 0)
found_cases true f o = refl
found_cases false f o = refl

last-some : (es : List Event) (e : Event) (k : ℕ) (f : Failure) → failure_of (es, e) ≡ Some f → last_failure (es ++ e ∷ []) k ≡ cond (f.ccb == k) f.place (last_failure es k)
unfolding last_failure
last-some es e k f some = rw (failures-push es e, some, reverse-append (failures es) (f ∷ [])) (found_cases (f.ccb == k) f (find (λ (g : Failure). g.ccb == k) (reverse (failures es))))

-- cases stand in the order of their last failures
record IsInOrder (es : List Event) : Type 0 where
  pub rising : AllPairs (λ j k. last_failure es j < last_failure es k) (cases es)
  pub before : All (λ k. last_failure es k < length es) (cases es)

abbrev kept : List Event → Event → List ℕ
kept es e = filter (λ k. not (concerns k e)) (cases es)

module _ (es : List Event) (e : Event) (h : IsInOrder es) where
  -- what holds of those that the event leaves as they are
  record AreKept : Type 0 where
    pub rising : AllPairs (λ j k. last_failure (es ++ e ∷ []) j < last_failure (es ++ e ∷ []) k) (kept es e)
    pub before : All (λ k. last_failure (es ++ e ∷ []) k < length es) (kept es e)

  are-kept : ((k : ℕ) → not (concerns k e) ≡ true → last_failure (es ++ e ∷ []) k ≡ last_failure es k) → AreKept
  are-kept same =
      let others = filter_passes (λ k. not (concerns k e)) (cases es) in
      let pairs = AllPairs-filter (λ j k. last_failure es j < last_failure es k) (λ k. not (concerns k e)) (cases es) h.rising in
      let past = All-filter (λ k. not (concerns k e)) (λ k. last_failure es k < length es) (cases es) h.before in
      record {
        rising = λ i j d lt l.
            let one = same (get_or (kept es e) i d) (others i d (omega arith)) in
            let two = same (get_or (kept es e) j d) (others j d l) in
            let below = pairs i j d lt l in
            omega (arith, one, two, below);
        before = λ i d lt.
            let one = same (get_or (kept es e) i d) (others i d lt) in
            let below = past i d lt in
            omega (arith, one, below);
      }

  order_none : failure_of (es, e) ≡ None → IsInOrder (es ++ e ∷ [])
  order_none none =
      let k = are-kept (λ n other. last-none es e n none) in
      let is : cases (es ++ e ∷ []) ≡ kept es e = cases-push es e ∙ rw none (append-nil (kept es e)) in
      record {
        rising = rw is k.rising;
        before = rw is (λ i d lt. let below = k.before i d lt in omega (arith, below, length-append es (e ∷ [])));
      }

  order_some : (f : Failure) → failure_of (es, e) ≡ Some f → concerns f.ccb e ≡ true → IsInOrder (es ++ e ∷ [])
  order_some f some me =
      let at : f.place ≡ length es = place-failure_of (es, e) f some in
      let k = are-kept (λ n other. last-some es e n f some ∙ other_place f n me other (f.ccb == n) refl) in
      let is : cases (es ++ e ∷ []) ≡ kept es e ++ f.ccb ∷ [] = cases-push es e ∙ rw some refl in
      let now : last_failure (es ++ e ∷ []) f.ccb ≡ length es = last-some es e f.ccb f some ∙ rw (eq-eqb f.ccb f.ccb refl) at in
      record {
        rising = rw is (all_pairs_push (λ i j. last_failure (es ++ e ∷ []) i < last_failure (es ++ e ∷ []) j) (kept es e) f.ccb k.rising (λ i d lt. let below = k.before i d lt in omega (arith, below, now)));
        before = rw is (All-append (λ n. last_failure (es ++ e ∷ []) n < length (es ++ e ∷ [])) (kept es e) (f.ccb ∷ [])
            (λ i d lt. let below = k.before i d lt in omega (arith, below, length-append es (e ∷ [])))
            (All-cons (λ n. last_failure (es ++ e ∷ []) n < length (es ++ e ∷ [])) f.ccb [] (omega (arith, now, length-append es (e ∷ []))) (All-nil (λ n. last_failure (es ++ e ∷ []) n < length (es ++ e ∷ [])))));
      }
    where
      other_place : (f : Failure) (n : ℕ) → concerns f.ccb e ≡ true → not (concerns n e) ≡ true → (b : Bool) → (f.ccb == n) ≡ b → cond b f.place (last_failure es n) ≡ last_failure es n
      other_place f n me other true same =
          let is : f.ccb ≡ n = eqb-true f.ccb n same in
          let here : not (concerns f.ccb e) ≡ true = subst (λ k. not (concerns k e) ≡ true) (sym is) other in
          let off : not true ≡ true = rw me at here in
          absurd (cc)
      other_place f n me other false same = refl

-- a failure concerns its CCB
one_is : (b : Bool) (j k : ℕ) → ◌≡◌ {A = List ℕ} (j ∷ []) (cond b (k ∷ []) []) → j ≡ k
one_is true j k is = cc
one_is false j k is = absurd (cc)

failed_concerns : (es : List Event) (e : Event) (f : Failure) (o : Option ℕ) → ccb_of e ≡ o → failure_of (es, e) ≡ Some f → concerns f.ccb e ≡ true
failed_concerns es e f None is some = let one : ◌≡◌ {A = List ℕ} (f.ccb ∷ []) [] = sym (ap (λ x. option_to_list (option_map failed_ccb x)) some) ∙ new_case-none es e is in absurd (cc)
failed_concerns es e f (Some c) is some =
    let one : ◌≡◌ {A = List ℕ} (f.ccb ∷ []) (cond (is_erring e) (c ∷ []) []) = sym (ap (λ x. option_to_list (option_map failed_ccb x)) some) ∙ new_case-same es e c is in
    concerns-same e c is f.ccb ∙ eq-eqb c f.ccb (sym (one_is (is_erring e) f.ccb c one))

order_step : (es : List Event) (e : Event) → IsInOrder es → IsInOrder (es ++ e ∷ [])
order_step es e h = by_failure (failure_of (es, e)) refl
  where
    by_failure : (o : Option Failure) → failure_of (es, e) ≡ o → IsInOrder (es ++ e ∷ [])
    by_failure None is = order_none es e h is
    by_failure (Some f) is = order_some es e h f is (failed_concerns es e f (ccb_of e) refl is)

order_none_yet : IsInOrder []
unfolding cases failures
order_none_yet = record { rising = λ i j d lt l. absurd (omega arith); before = λ k d lt. absurd (omega arith) }

in-order : (es : List Event) → IsInOrder es
in-order es = event-induction IsInOrder order_none_yet order_step es

rising_from : (es : List Event) (ccb other : ℕ) (ks l r : List ℕ) → AllPairs (λ j k. last_failure es j < last_failure es k) ks → slice_get ks 0 ≡ Some ccb → other ≢ ccb → ks ≡ l ++ other ∷ r → last_failure es ccb < last_failure es other
rising_from es ccb other ks [] r h first ne is = let same : Some other ≡ Some ccb = sym (ap (λ xs. slice_get xs 0) is) ∙ first in absurd (ne (let n : other ≡ ccb = cc in n))
rising_from es ccb other ks (x ∷ l) r h first ne is =
    let same : Some x ≡ Some ccb = sym (ap (λ xs. slice_get xs 0) is) ∙ first in
    let front : x ≡ ccb = cc in
    let pairs = subst (AllPairs (λ j k. last_failure es j < last_failure es k)) is h in
    let lt = pairs 0 (length (x ∷ l)) 0 (omega arith) (omega (arith, length-append (x ∷ l) (other ∷ r))) in
    omega (arith, lt, ap (last_failure es) front, ap (last_failure es) (get_or-append_seam (x ∷ l) other r 0))

pub first_case_failed_first : (rules : Rules) (c : Topology) (es : List Event) (ccb other : ℕ) → is_legal rules c es ≡ true → slice_get (cases es) 0 ≡ Some ccb → is_recovering es other ≡ true → other ≢ ccb → last_failure es ccb < last_failure es other
first_case_failed_first rules c es ccb other legal first recovers ne =
    let s = split-at other (cases es) (count_cases es other ∙ ap (λ b. cond {A = ℕ} b 1 0) recovers) in
    rising_from es ccb other (cases es) s.0 s.1 (in-order es).rising first ne s.2.whole

-- a decision that is asked for
class_cases : (asks : class.Class → Bool) (f : Outcome → class.Class) (o : Option Outcome) → is_some_and asks (option_map f o) ≡ is_some_and (λ r. asks (f r)) o
class_cases asks f None = refl
class_cases asks f (Some r) = refl

asked_requeue : (es : List Event) (n : ℕ) → is_some_and asks_requeue (last_class es n) ≡ true → wants_requeue es n ≡ true
unfolding wants_requeue
asked_requeue es n h = sym (class_cases asks_requeue (λ r. classify r (counted_requeues es n) (retries_of es n)) (last_result es n)) ∙ h

asked_finish : (es : List Event) (n : ℕ) → is_some_and asks_finish (last_class es n) ≡ true → wants_finish es n ≡ true
unfolding wants_finish
asked_finish es n h = sym (class_cases asks_finish (λ r. classify r (counted_requeues es n) (retries_of es n)) (last_result es n)) ∙ h

room_requeue : (h s n r w : Bool) (k : ℕ) → n ≡ true → r ≡ true → w ≡ true → is_for_room (first_cause ((h, HistoryFull k) ∷ (not n, NoCcb) ∷ (s, StaysFull) ∷ (not r, NotRecovering) ∷ (not w, WrongDecision) ∷ [])) ≡ true
room_requeue true s n r w k i j l = refl
room_requeue false true n r w k i j l = rw i refl
room_requeue false false n r w k i j l = rw (i, j, l) refl

room_finish : (h n r w : Bool) (k : ℕ) → n ≡ true → r ≡ true → w ≡ true → is_for_room (first_cause ((h, HistoryFull k) ∷ (not n, NoCcb) ∷ (not r, NotRecovering) ∷ (not w, WrongDecision) ∷ [])) ≡ true
room_finish true n r w k i j l = refl
room_finish false n r w k i j l = rw (i, j, l) refl

pub asked_decisions_are_taken : (rules : Rules) (c : Topology) (es : List Event) (ccb : ℕ) → is_legal rules c es ≡ true → is_recovering es ccb ≡ true →
    (is_some_and asks_requeue (last_class es ccb) ≡ true → is_for_room (refusal rules c es (Requeue ccb)) ≡ true) × (is_some_and asks_finish (last_class es ccb) ≡ true → is_for_room (refusal rules c es (Finish ccb)) ≡ true)
unfolding refusal
asked_decisions_are_taken rules c es ccb legal recovers =
    let named = (recovering_held es ccb ((states-legal rules c es legal).placed ccb) recovers).0 in (
      λ asks. room_requeue (nat_le rules.events (length es)) (are_stays_full rules es) (names_ccb es ccb) (is_recovering es ccb) (wants_requeue es ccb) (length es) named recovers (asked_requeue es ccb asks),
      λ asks. room_finish (nat_le rules.events (length es)) (names_ccb es ccb) (is_recovering es ccb) (wants_finish es ccb) (length es) named recovers (asked_finish es ccb asks),
    )

-- a decision ends the case
not_among : (es : List Event) (k : ℕ) → is_recovering es k ≡ false → list_any (λ x. x == k) (cases es) ≡ false
not_among es k fine = any-none (λ x. x == k) (cases es) (count_cases es k ∙ ap (λ b. cond {A = ℕ} b 1 0) fine)

decided_case : (es : List Event) (e : Event) (ccb : ℕ) → ccb_of e ≡ Some ccb → is_erring e ≡ false → list_any (λ k. k == ccb) (cases (es ++ e ∷ [])) ≡ false
decided_case es e ccb is good = not_among (es ++ e ∷ []) ccb (is_recovering-push es e ccb ∙ rw (concerns-same e ccb is ccb, eq-eqb ccb ccb refl) good)

pub decisions_end_cases : (es : List Event) (ccb : ℕ) → (list_any (λ k. k == ccb) (cases (es ++ Requeue ccb ∷ [])) ≡ false) × (list_any (λ k. k == ccb) (cases (es ++ Finish ccb ∷ [])) ≡ false)
decisions_end_cases es ccb = (decided_case es (Requeue ccb) ccb refl refl, decided_case es (Finish ccb) ccb refl refl)

-- the class after a completion that errs
alive_behind : (es : List Event) (ccb : ℕ) (o : Outcome) → is_alive es ccb ≡ true → is_erring (Done ccb o) ≡ true → is_alive (es ++ Done ccb o ∷ []) ccb ≡ true
alive_behind es ccb o lives errs = not_ended-push es (Done ccb o) ccb ∙ rw (lives, eq-eqb ccb ccb refl, errs) refl

class_behind : (es : List Event) (ccb : ℕ) (o : Outcome) → ccb < commands es → last_class (es ++ Done ccb o ∷ []) ccb ≡ Some (classify o (counted_requeues es ccb) (retries_of es ccb))
class_behind es ccb o lt =
    rw (last_result-push es (Done ccb o) ccb, eq-eqb ccb ccb refl, counted_requeues-push es (Done ccb o) ccb, add-zero (counted_requeues es ccb), submission-push es (Done ccb o) ccb lt) refl

pub failures_are_classed : (rules : Rules) (c : Topology) (es : List Event) (ccb : ℕ) (o : Outcome) → is_legal rules c es ≡ true → is_legal_event rules c (es, Done ccb o) ≡ true → is_erring (Done ccb o) ≡ true →
    cond (is_alive (es ++ Done ccb o ∷ []) ccb) (last_class (es ++ Done ccb o ∷ []) ccb) None ≡ Some (classify o (counted_requeues es ccb) (retries_of es ccb))
failures_are_classed rules c es ccb o legal allowed errs =
    let asks = asks-done rules c es ccb o allowed in
    let held = in_flight_held es ccb ((states-legal rules c es legal).placed ccb) asks.1 in
    ap (λ b. cond b (last_class (es ++ Done ccb o ∷ []) ccb) None) (alive_behind es ccb o held.1 errs) ∙ class_behind es ccb o asks.0
