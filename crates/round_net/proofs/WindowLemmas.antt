-- each stay was sent within its window
use Rattle.std.proofs.Common.{◌≡◌, ℕ, ◌+◌, ◌-◌, ◌<◌, ◌≤◌, Bool, true, false, cond, List, [], ◌∷◌, ◌++◌, length, get_or, refl, sym, ap, ◌∙◌, arith, Option, Some, None, ◌==◌, filter, find, option_to_list, All, nat_lt}
use Rattle.std.specs.Option.{option_map, option_map_or, option_or}
use Rattle.std.proofs.lemmas.Bool.{and_parts, eqb-true, eq-eqb, leb-true}
use Rattle.std.proofs.lemmas.Option.{slice_get-get_or}
use Rattle.std.proofs.lemmas.List.Elements.{All-nil, All-cons, All-head, All-tail, All-append}
use Rattle.std.proofs.lemmas.List.Folds.{find-append}
use Rattle.round_net.specs.Words.{Topology, is_send_of, round, commands, submission, stays_begun, stay_begun, is_unsent, waiting, has_arrived, has_queued, send_place, live_round, Event, Submit, Send, Requeue, Submission, Passage, Rules, is_legal_event, is_legal, follows, next_stay}
use Rattle.event_rules.proofs.PushLaws.{is_unsent-push, born_unsent, stays_begun-push, places-stays_begun, place-stay_begun}
use Rattle.event_rules.proofs.LimitLemmas.{legal-induction, round_first}
use Rattle.xpt_core.proofs.LatestLemmas.{AreLatest, latest_step, none_latest}
use Rattle.round_net.specs.Nets.{last_round}
use Rattle.round_net.proofs.CountLemmas.{all_where_one}
use Rattle.round_net.proofs.PlaceLemmas.{round-grows, round-take}
use Rattle.xpt_core.proofs.SentLemmas.{live_round-sent, live_round-sending}
use Rattle.event_rules.proofs.TotalLaws.{is_of}
use Rattle.event_rules.proofs.StandLemmas.{AreStates, unsent-most}
use Rattle.round_net.proofs.OpeningLemmas.{legal-send}

-- no stay was sent later than in the last round
pub live_round-le : (es : List Event) (p : Passage) → live_round es p ≤ round es
live_round-le es p = round-take es (send_place es p)

-- what holds of the stays so far and of one that begins holds of all
All-born : (P : Passage → Type 0) (ps : List Passage) (o : Option Passage) → All P ps → ((p : Passage) → o ≡ Some p → P p) → All P (ps ++ option_to_list o)
All-born P ps None h born = All-append P ps [] h (All-nil P)
All-born P ps (Some p) h born = All-append P ps (p ∷ []) h (All-cons P p [] (born p refl) (All-nil P))

-- when a stay arrives
submitted_arrival : (n : ℕ) (q p : Passage) → q.arrival ≡ n → Some q ≡ Some p → p.arrival ≡ n
submitted_arrival n q p h e = let e' : q ≡ p = cc in ap (λ (r : Passage). r.arrival) (sym e') ∙ h

requeued_arrival : (o : Option Submission) (f : Submission → Passage) (n : ℕ) (p : Passage) → ((s : Submission) → (f s).arrival ≡ n) → option_map f o ≡ Some p → p.arrival ≡ n
requeued_arrival None f n p h e = absurd cc
requeued_arrival (Some s) f n p h e = let e' : f s ≡ p = cc in ap (λ (r : Passage). r.arrival) (sym e') ∙ h s

submitted_ccb : (n : ℕ) (q p : Passage) → q.ccb ≡ n → Some q ≡ Some p → p.ccb ≡ n
submitted_ccb n q p h e = let e' : q ≡ p = cc in ap (λ (r : Passage). r.ccb) (sym e') ∙ h

born_arrival : (es : List Event) (e : Event) (p : Passage) → stay_begun (es, e) ≡ Some p → (round es ≤ p.arrival) × (p.arrival ≤ round es + 1)
born_arrival es (Submit driver device priority retries flags) p is = let at : p.arrival ≡ round es = submitted_arrival (round es) _ p refl is in (omega arith, omega arith)
born_arrival es (Requeue ccb) p is = let at : p.arrival ≡ round es + 1 = requeued_arrival (submission es ccb) _ (round es + 1) p (λ s. refl) is in (omega arith, omega arith)
born_arrival es _ p is = absurd cc

-- a stay of a CCB that was there begins by a requeue, and arrives in the next round
requeued_next : (es : List Event) (e : Event) (q : Passage) → stay_begun (es, e) ≡ Some q → q.ccb < commands es → q.arrival ≡ round es + 1
requeued_next es (Submit driver device priority retries flags) q is lt = let at : q.ccb ≡ commands es = submitted_ccb (commands es) _ q refl is in absurd (omega arith)
requeued_next es (Requeue ccb) q is lt = requeued_arrival (submission es ccb) _ (round es + 1) q (λ s. refl) is
requeued_next es _ q is lt = absurd cc

send_begins_none : (es : List Event) (e : Event) (k : ℕ) → is_send_of k e ≡ true → stay_begun (es, e) ≡ None
send_begins_none es (Send lane ccb) k is = refl
send_begins_none es _ k is = absurd cc

-- a legal send is of a stay that has arrived
arrived_where_sent : (rules : Rules) (c : Topology) (es : List Event) (lane ccb : ℕ) → is_legal_event rules c (es, Send lane ccb) ≡ true → AreStates es → All (λ (p : Passage). (p.ccb == ccb) ≡ true → has_arrived es p ≡ true) (waiting es)
unfolding has_queued
arrived_where_sent rules c es lane ccb legal states =
    all_where_one (is_of ccb) (has_arrived es) (waiting es) (unsent-most es ccb (states.placed ccb)) (legal-send rules c es lane ccb legal).sendable.queued

in_filter : (p : Passage → Bool) (P : Passage → Type 0) (xs : List Passage) → All P (filter p xs) → All (λ x. p x ≡ true → P x) xs
in_filter p P [] h = All-nil (λ x. p x ≡ true → P x)
in_filter p P (x ∷ xs) h = elim (p x) as (λ b. p x ≡ b → All P (cond b (x ∷ filter p xs) (filter p xs)) → All (λ y. p y ≡ true → P y) (x ∷ xs)) [
  | true ↦ λ e g. All-cons (λ y. p y ≡ true → P y) x xs (λ _. All-head P x (filter p xs) g) (in_filter p P xs (All-tail P x (filter p xs) g))
  | false ↦ λ e g. All-cons (λ y. p y ≡ true → P y) x xs (λ passes. absurd cc) (in_filter p P xs g)
] refl h

-- what is sent has arrived
arrived_when_sent : (rules : Rules) (c : Topology) (es : List Event) (e : Event) → is_legal_event rules c (es, e) ≡ true → AreStates es → All (λ (p : Passage). is_unsent es p ≡ true → is_send_of p.ccb e ≡ true → p.arrival ≤ round es) (stays_begun es)
unfolding waiting
arrived_when_sent rules c es (Send lane ccb) legal states k d lt unsent sends =
    let p = get_or (stays_begun es) k d in
    let all = in_filter (is_unsent es) (λ (q : Passage). (q.ccb == ccb) ≡ true → has_arrived es q ≡ true) (stays_begun es) (arrived_where_sent rules c es lane ccb legal states) in
    let arrived : has_arrived es p ≡ true = all k d lt unsent (eq-eqb p.ccb ccb (sym (eqb-true ccb p.ccb sends))) in
    leb-true p.arrival (round es) arrived
arrived_when_sent rules c es _ legal states k d lt unsent sends = absurd cc

-- how a stay lies in its window so far
pub record IsInWindow (es : List Event) (p : Passage) : Type 0 where
  pub first : 1 ≤ p.arrival
  pub soon : p.arrival ≤ round es + 1
  pub arrived : is_unsent es p ≡ false → p.arrival ≤ live_round es p
  pub within : is_unsent es p ≡ false → live_round es p ≤ last_round es p

found_one : (t : Passage → Bool) (q : Passage) (r : Passage) → find t (q ∷ []) ≡ Some r → (q ≡ r) × (t q ≡ true)
found_one t q r e = elim (t q) as (λ b. cond b (Some q) None ≡ Some r → (q ≡ r) × (b ≡ true)) [ true ↦ λ g. (cc, refl) | false ↦ λ g. absurd cc ] e

-- a stay that begins
born_window : (es : List Event) (e : Event) (p : Passage) → stay_begun (es, e) ≡ Some p → IsInWindow (es ++ e ∷ []) p
born_window es e p is =
    let unsent = born_unsent es e p (place-stay_begun (es, e) p is) in
    let arrival = born_arrival es e p is in
    let first = round_first es in
    let grows = round-grows es e in
    record {
      first = omega (arith, arrival.0);
      soon = omega (arith, arrival.1);
      arrived = λ sent. absurd cc;
      within = λ sent. absurd cc;
    }

-- where the event begins another stay
next-push : (es : List Event) (e : Event) (p : Passage) → next_stay (stays_begun (es ++ e ∷ [])) p ≡ option_or (next_stay (stays_begun es) p) (next_stay (option_to_list (stay_begun (es, e))) p)
next-push es e p = ap (find (follows p)) (stays_begun-push es e) ∙ find-append (follows p) (stays_begun es) (option_to_list (stay_begun (es, e)))

-- which arrives in the next round
next_arrives : (es : List Event) (e : Event) (p : Passage) (o : Option Passage) (q : Passage) → p.ccb < commands es → stay_begun (es, e) ≡ o → next_stay (option_to_list o) p ≡ Some q → q.arrival ≡ round es + 1
next_arrives es e p None q named is next = absurd cc
next_arrives es e p (Some r) q named is next =
    let found = found_one (follows p) r q next in
    let same : r.ccb ≡ p.ccb = eqb-true r.ccb p.ccb (and_parts (r.ccb == p.ccb) (nat_lt p.place r.place) found.1).0 in
    ap (λ (s : Passage). s.arrival) (sym found.0) ∙ requeued_next es e r is (omega arith)

last_after : (n live rounds before : ℕ) (o : Option Passage) → live ≤ before → before ≤ rounds → ((q : Passage) → o ≡ Some q → q.arrival ≡ before + 1) → live ≤ option_map_or (λ (q : Passage). q.arrival - 1) o rounds
last_after n live rounds before None le grows h = omega arith
last_after n live rounds before (Some q) le grows h = let at = h q refl in omega arith

last_kept : (live rounds rounds' : ℕ) (o other : Option Passage) → live ≤ option_map_or (λ (q : Passage). q.arrival - 1) o rounds → live ≤ option_map_or (λ (q : Passage). q.arrival - 1) other rounds' → live ≤ option_map_or (λ (q : Passage). q.arrival - 1) (option_or o other) rounds'
last_kept live rounds rounds' None other h g = g
last_kept live rounds rounds' (Some q) other h g = h

old_within : (es : List Event) (e : Event) (k : ℕ) (d : Passage) → AreLatest es → k < length (stays_begun es) → IsInWindow es (get_or (stays_begun es) k d) → is_unsent (es ++ e ∷ []) (get_or (stays_begun es) k d) ≡ false → live_round (es ++ e ∷ []) (get_or (stays_begun es) k d) ≤ last_round (es ++ e ∷ []) (get_or (stays_begun es) k d)
unfolding last_round
old_within es e k d latest lt is sent =
    let p = get_or (stays_begun es) k d in
    let early = places-stays_begun es k d lt in
    let kept = latest.stays k p (slice_get-get_or (stays_begun es) k d lt) in
    let grows = round-grows es e in
    let other : live_round es p ≤ round es = live_round-le es p in
    rw (next-push es e p) (elim (is_unsent es p) as (λ b. is_unsent es p ≡ b → live_round (es ++ e ∷ []) p ≤ option_map_or (λ (q : Passage). q.arrival - 1) (option_or (next_stay (stays_begun es) p) (next_stay (option_to_list (stay_begun (es, e))) p)) (round (es ++ e ∷ []))) [
      | false ↦ λ sent'.
          rw (live_round-sent es e p early sent') (last_kept (live_round es p) (round es) (round (es ++ e ∷ [])) (next_stay (stays_begun es) p) (next_stay (option_to_list (stay_begun (es, e))) p) (is.within sent')
          (last_after 0 (live_round es p) (round (es ++ e ∷ [])) (round es) (next_stay (option_to_list (stay_begun (es, e))) p) other grows (λ q next. next_arrives es e p (stay_begun (es, e)) q kept.ccb refl next)))
      | true ↦ λ unsent.
          let sends : is_send_of p.ccb e ≡ true = sends_where_sent es e p early unsent sent in
          rw (live_round-sending es e p early unsent sends, kept.alone unsent, send_begins_none es e p.ccb sends) grows
    ] refl)
  where
    sends_where_sent : (es : List Event) (e : Event) (p : Passage) → p.place < length es → is_unsent es p ≡ true → is_unsent (es ++ e ∷ []) p ≡ false → is_send_of p.ccb e ≡ true
    sends_where_sent es e p lt unsent sent = elim (is_send_of p.ccb e) as (λ b. is_send_of p.ccb e ≡ b → b ≡ true) [
      | true ↦ λ s. refl
      | false ↦ λ s. let both : is_unsent (es ++ e ∷ []) p ≡ true = is_unsent-push es e p lt ∙ rw (unsent, s) refl in absurd cc
    ] refl

old_window : (rules : Rules) (c : Topology) (es : List Event) (e : Event) (k : ℕ) (d : Passage) → is_legal_event rules c (es, e) ≡ true → AreLatest es → k < length (stays_begun es) → IsInWindow es (get_or (stays_begun es) k d) → IsInWindow (es ++ e ∷ []) (get_or (stays_begun es) k d)
old_window rules c es e k d legal latest lt is =
    let p = get_or (stays_begun es) k d in
    let early = places-stays_begun es k d lt in
    let grows = round-grows es e in
    let push = is_unsent-push es e p early in
    record {
      first = is.first;
      soon = let soon = is.soon in omega arith;
      arrived = λ sent. elim (is_unsent es p) as (λ b. is_unsent es p ≡ b → p.arrival ≤ live_round (es ++ e ∷ []) p) [
        | false ↦ λ sent'. rw (live_round-sent es e p early sent') (is.arrived sent')
        | true ↦ λ unsent. elim (is_send_of p.ccb e) as (λ b. is_send_of p.ccb e ≡ b → p.arrival ≤ live_round (es ++ e ∷ []) p) [
          | true ↦ λ sends. rw (live_round-sending es e p early unsent sends) (arrived_when_sent rules c es e legal latest.states k d lt unsent sends)
          | false ↦ λ other. let both : is_unsent (es ++ e ∷ []) p ≡ true = push ∙ rw (unsent, other) refl in absurd cc
        ] refl
      ] refl;
      within = λ sent. old_within es e k d latest lt is sent;
    }

pub record AreInWindows (es : List Event) : Type 0 where
  pub latest : AreLatest es
  pub each : All (IsInWindow es) (stays_begun es)

windows-step : (rules : Rules) (c : Topology) (es : List Event) (e : Event) → is_legal_event rules c (es, e) ≡ true → AreInWindows es → AreInWindows (es ++ e ∷ [])
windows-step rules c es e legal is = record {
  latest = latest_step rules c es e legal is.latest;
  each = rw stays_begun-push (All-born (IsInWindow (es ++ e ∷ [])) (stays_begun es) (stay_begun (es, e))
      (λ k d lt. old_window rules c es e k d legal is.latest lt (is.each k d lt)) (λ p born. born_window es e p born));
}

windows-none : AreInWindows []
unfolding stays_begun
windows-none = record { latest = none_latest; each = All-nil (IsInWindow []) }

pub windows-legal : (rules : Rules) (c : Topology) (es : List Event) → is_legal rules c es ≡ true → AreInWindows es
unfolding is_legal
windows-legal rules c es legal = legal-induction rules c AreInWindows (windows-step rules c) [] es legal windows-none

found-All : (P : Passage → Type 0) (t : Passage → Bool) (xs : List Passage) (q : Passage) → All P xs → find t xs ≡ Some q → P q
found-All P t [] q h e = absurd cc
found-All P t (x ∷ xs) q h e = elim (t x) as (λ b. cond b (Some x) (find t xs) ≡ Some q → P q) [
  | true ↦ λ g. let same : x ≡ q = cc in rw (← same) (All-head P x xs h)
  | false ↦ λ g. found-All P t xs q (All-tail P x xs h) g
] e

-- no window ends after the last round
pub last_round-le : (es : List Event) (p : Passage) → All (λ (q : Passage). q.arrival ≤ round es + 1) (stays_begun es) → last_round es p ≤ round es
unfolding last_round
last_round-le es p soon = elim (next_stay (stays_begun es) p) as (λ o. next_stay (stays_begun es) p ≡ o → option_map_or (λ (q : Passage). q.arrival - 1) o (round es) ≤ round es) [
  | None ↦ λ e. omega arith
  | Some q ↦ λ e. let le : q.arrival ≤ round es + 1 = found-All (λ (r : Passage). r.arrival ≤ round es + 1) (follows p) (stays_begun es) q soon e in omega arith
] refl
