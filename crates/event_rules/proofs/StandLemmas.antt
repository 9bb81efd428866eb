-- where each CCB of a legal list stands: one that was submitted and hasn't ended has an unsent stay, is in flight or recovers, and each other does none of these
use Rattle.std.proofs.Common.{◌≡◌, ◌≢◌, ℕ, ◌+◌, ◌<◌, ◌≤◌, Bool, true, false, cond, List, [], ◌∷◌, ◌++◌, refl, sym, ap, ◌∙◌, arith, Option, Some, None, inl, inr, add-zero, zero-add, not, ◌==◌, ◌&&◌, ◌||◌, nat_lt, filter, count_by, option_to_list}
use Rattle.std.specs.List.{list_any}
use Rattle.std.proofs.lemmas.Bool.{cases_lt, cases_eq, and_parts, ltb-true, lt-ltb, le-ltb, eq-eqb, ne_eqb, eqb-true, or_cases}
use Rattle.std.proofs.lemmas.Option.{slice_get-get_or}
use Rattle.std.proofs.lemmas.List.Sums.{sum_by-cons, sum_by-append}
use Rattle.std.proofs.Math.Bool.{and-true}
use Rattle.cam_types.specs.Topology.{Topology}
use Rattle.cam_types.specs.declared.outcome.Outcome.{Outcome}
use Rattle.sense_class.specs.Classes.{status_of}
use Rattle.event_rules.specs.Event.{is_send_of, concerns, ccb_of, is_erring, ends, submission_of, Event, Submit, Send, Done, Requeue, Finish}
use Rattle.event_rules.specs.Counts.{commands, submission, submissions, is_in_flight, is_recovering, wants_requeue, wants_finish, Submission}
use Rattle.event_rules.specs.Stays.{stays_begun, waiting, stay_begun, has_arrived, has_queued, Passage}
use Rattle.event_rules.proofs.PushLaws.{waiting-push}
use Rattle.event_rules.proofs.ListFacts.{count_by-kept, count_by-dropped}
use Rattle.event_rules.proofs.ConcernLaws.{apart, concerns-none, concerns-other, submit_concerns_none}
use Rattle.event_rules.proofs.StateLaws.{is_in_flight-push, is_recovering-push}
use Rattle.event_rules.proofs.CcbLaws.{not_ended-push}
use Rattle.event_rules.proofs.TotalLaws.{unsent_count, commands-submit, commands-none}
use Rattle.cam_types.specs.Questions.{names_lane}
use Rattle.event_rules.specs.Legal.{Rules, names_ccb, has_stay, is_next, is_legal_event, is_legal}
use Rattle.event_rules.proofs.LawLemmas.{allowed-legal_event}
use Rattle.event_rules.proofs.LimitLemmas.{legal-induction}
use Rattle.event_rules.proofs.SendLemmas.{send_from_next}

-- what a legal event of each kind asks
pub asks-send : (rules : Rules) (c : Topology) (es : List Event) (lane ccb : ℕ) → is_legal_event rules c (es, Send lane ccb) ≡ true → (ccb < commands es) × (is_next c es lane ccb ≡ true)
asks-send rules c es lane ccb legal =
    let asked = (allowed-legal_event rules c es (Send lane ccb) legal).1 in
    let one = and_parts (names_lane c lane && names_ccb es ccb) (is_next c es lane ccb) asked in
    (ltb-true _ _ (and_parts (names_lane c lane) (names_ccb es ccb) one.0).1, one.1)

pub asks-done : (rules : Rules) (c : Topology) (es : List Event) (ccb : ℕ) (o : Outcome) → is_legal_event rules c (es, Done ccb o) ≡ true → (ccb < commands es) × (is_in_flight es ccb ≡ true)
asks-done rules c es ccb o legal =
    let asked = (allowed-legal_event rules c es (Done ccb o) legal).1 in
    let one = and_parts (names_ccb es ccb && not (status_of o == 0)) (is_in_flight es ccb) asked in
    (ltb-true _ _ (and_parts (names_ccb es ccb) (not (status_of o == 0)) one.0).0, one.1)

pub asks-requeue : (rules : Rules) (c : Topology) (es : List Event) (ccb : ℕ) → is_legal_event rules c (es, Requeue ccb) ≡ true → (ccb < commands es) × (is_recovering es ccb ≡ true)
asks-requeue rules c es ccb legal =
    let asked = (allowed-legal_event rules c es (Requeue ccb) legal).1 in
    let one = and_parts (names_ccb es ccb && has_stay rules es && is_recovering es ccb) (wants_requeue es ccb) asked in
    let two = and_parts (names_ccb es ccb && has_stay rules es) (is_recovering es ccb) one.0 in
    (ltb-true _ _ (and_parts (names_ccb es ccb) (has_stay rules es) two.0).0, two.1)

pub asks-finish : (rules : Rules) (c : Topology) (es : List Event) (ccb : ℕ) → is_legal_event rules c (es, Finish ccb) ≡ true → (ccb < commands es) × (is_recovering es ccb ≡ true)
asks-finish rules c es ccb legal =
    let asked = (allowed-legal_event rules c es (Finish ccb) legal).1 in
    let one = and_parts (names_ccb es ccb && is_recovering es ccb) (wants_finish es ccb) asked in
    let two = and_parts (names_ccb es ccb) (is_recovering es ccb) one.0 in
    (ltb-true _ _ two.0, two.1)

-- a legal event names a CCB that was submitted
named_before : (rules : Rules) (c : Topology) (es : List Event) (e : Event) (n : ℕ) → is_legal_event rules c (es, e) ≡ true → ccb_of e ≡ Some n → n < commands es
named_before rules c es (Send lane ccb) n legal is = let same : ccb ≡ n = cc in omega (arith, (asks-send rules c es lane ccb legal).0)
named_before rules c es (Done ccb outcome) n legal is = let same : ccb ≡ n = cc in omega (arith, (asks-done rules c es ccb outcome legal).0)
named_before rules c es (Requeue ccb) n legal is = let same : ccb ≡ n = cc in omega (arith, (asks-requeue rules c es ccb legal).0)
named_before rules c es (Finish ccb) n legal is = let same : ccb ≡ n = cc in omega (arith, (asks-finish rules c es ccb legal).0)
named_before rules c es _ n legal is = absurd (cc)

concerns_by : (rules : Rules) (c : Topology) (es : List Event) (e : Event) (n : ℕ) (o : Option ℕ) → ccb_of e ≡ o → is_legal_event rules c (es, e) ≡ true → commands es ≤ n → concerns n e ≡ false
concerns_by rules c es e n None is legal le = concerns-none e n is
concerns_by rules c es e n (Some m) is legal le = let lt = named_before rules c es e m legal is in concerns-other e m n is (λ same. omega arith)

-- and none that wasn't
pub concerns-past : (rules : Rules) (c : Topology) (es : List Event) (e : Event) (n : ℕ) → is_legal_event rules c (es, e) ≡ true → commands es ≤ n → concerns n e ≡ false
concerns-past rules c es e n legal le = concerns_by rules c es e n (ccb_of e) refl legal le

commands_by : (es : List Event) (e : Event) (o : Option Submission) → submission_of e ≡ o → commands es ≤ commands (es ++ e ∷ [])
commands_by es e None is = omega (arith, commands-none es e is)
commands_by es e (Some s) is = omega (arith, commands-submit es e s is)

pub commands-grow : (es : List Event) (e : Event) → commands es ≤ commands (es ++ e ∷ [])
commands-grow es e = commands_by es e (submission_of e) refl

abbrev bit : Bool → ℕ
bit b = cond b 1 0

-- how many unsent stays of a CCB the event begins
abbrev begun : List Event → Event → ℕ → ℕ
begun es e n = count_by (λ (p : Passage). p.ccb == n) (option_to_list (stay_begun (es, e)))

sent_cases : (es : List Event) (e : Event) (n : ℕ) (t : Bool) → is_send_of n e ≡ t → count_by (λ (p : Passage). p.ccb == n) (filter (λ (p : Passage). not (is_send_of p.ccb e)) (waiting es)) ≡ cond t 0 (unsent_count es n)
sent_cases es e n true is = count_by-dropped (λ (p : Passage). p.ccb == n) (λ (p : Passage). not (is_send_of p.ccb e)) (waiting es) (λ p kept. differs p kept (p.ccb == n) refl)
  where
    differs : (p : Passage) → not (is_send_of p.ccb e) ≡ true → (b : Bool) → (p.ccb == n) ≡ b → (p.ccb == n) ≡ false
    differs p kept false same = same
    differs p kept true same = let k : p.ccb ≡ n = eqb-true p.ccb n same in let off : not (is_send_of n e) ≡ true = rw k at kept in let on : not true ≡ true = rw is at off in absurd (cc)
sent_cases es e n false is = count_by-kept (λ (p : Passage). p.ccb == n) (λ (p : Passage). not (is_send_of p.ccb e)) (waiting es) (λ p same. let k : p.ccb ≡ n = eqb-true p.ccb n same in rw k (ap not is))

unsent-push : (es : List Event) (e : Event) (n : ℕ) → unsent_count (es ++ e ∷ []) n ≡ cond (is_send_of n e) 0 (unsent_count es n) + begun es e n
unsent-push es e n =
    ap (λ ps. count_by (λ (p : Passage). p.ccb == n) ps) (waiting-push es e)
    ∙ sum_by-append (λ (p : Passage). cond {A = ℕ} (p.ccb == n) 1 0) (filter (λ (p : Passage). not (is_send_of p.ccb e)) (waiting es)) (option_to_list (stay_begun (es, e)))
    ∙ ap (λ m. m + begun es e n) (sent_cases es e n (is_send_of n e) refl)

-- it was submitted and hasn't ended
abbrev pub is_held : List Event → ℕ → Bool
is_held es n = nat_lt n (commands es) && not (list_any (ends n) es)

-- it is in one state if that is so, and otherwise in none
pub record IsPlaced (es : List Event) (n : ℕ) : Type 0 where
  pub place : unsent_count es n + bit (is_in_flight es n) + bit (is_recovering es n) ≡ bit (is_held es n)

placed : (es : List Event) (n u : ℕ) (f r s a : Bool) → unsent_count es n ≡ u → is_in_flight es n ≡ f → is_recovering es n ≡ r → nat_lt n (commands es) ≡ s → not (list_any (ends n) es) ≡ a → u + bit f + bit r ≡ bit (s && a) → IsPlaced es n
placed es n u f r s a i j k l m h = record { place = rw (i, j, k, l, m) h }

bit_le : (b : Bool) → bit b ≤ 1
bit_le true = omega arith
bit_le false = omega arith

bit_one : (b : Bool) → 1 ≤ bit b → b ≡ true
bit_one true le = refl
bit_one false le = absurd (omega arith)

bit_none : (b : Bool) → bit b ≡ 0 → b ≡ false
bit_none true e = absurd (omega arith)
bit_none false e = refl

-- an event that concerns another CCB
other_step : (es : List Event) (e : Event) (n : ℕ) → concerns n e ≡ false → begun es e n ≡ 0 → nat_lt n (commands (es ++ e ∷ [])) ≡ nat_lt n (commands es) → IsPlaced es n → IsPlaced (es ++ e ∷ []) n
other_step es e n none begins same h =
    let a = apart n e none in
    placed (es ++ e ∷ []) n (unsent_count es n) (is_in_flight es n) (is_recovering es n) (nat_lt n (commands es)) (not (list_any (ends n) es))
    (unsent-push es e n ∙ rw (a.send, begins) (add-zero (unsent_count es n)))
    (is_in_flight-push es e n ∙ rw (a.send_or_done) refl)
    (is_recovering-push es e n ∙ rw none refl)
    same
    (not_ended-push es e n ∙ rw (a.ends) (and-true (not (list_any (ends n) es))))
    h.place

same_commands : (es : List Event) (e : Event) (n : ℕ) → submission_of e ≡ None → nat_lt n (commands (es ++ e ∷ [])) ≡ nat_lt n (commands es)
same_commands es e n is = ap (λ m. nat_lt n m) (commands-none es e is)

-- what each event finds and makes of the CCB that it concerns
queued_count : (es : List Event) (n : ℕ) (ps : List Passage) → list_any (λ (p : Passage). (p.ccb == n) && has_arrived es p) ps ≡ true → 1 ≤ count_by (λ (p : Passage). p.ccb == n) ps
queued_count es n [] h = absurd (cc)
queued_count es n (p ∷ ps) h = elim (or_cases ((p.ccb == n) && has_arrived es p) (list_any (λ (q : Passage). (q.ccb == n) && has_arrived es q) ps) h) [
  | inl here ↦ omega (arith, sum_by-cons (λ (q : Passage). cond {A = ℕ} (q.ccb == n) 1 0) p ps, ap bit (and_parts (p.ccb == n) (has_arrived es p) here).0)
  | inr later ↦ omega (arith, sum_by-cons (λ (q : Passage). cond {A = ℕ} (q.ccb == n) 1 0) p ps, queued_count es n ps later)
]

unsent_queued : (es : List Event) (n : ℕ) → has_queued es n ≡ true → 1 ≤ unsent_count es n
unfolding has_queued
unsent_queued es n h = queued_count es n (waiting es) h

held_by : (es : List Event) (n : ℕ) → 1 ≤ bit (is_held es n) → (nat_lt n (commands es) ≡ true) × (not (list_any (ends n) es) ≡ true)
held_by es n le = and_parts (nat_lt n (commands es)) (not (list_any (ends n) es)) (bit_one (is_held es n) le)

send_step : (es : List Event) (lane n : ℕ) → has_queued es n ≡ true → IsPlaced es n → IsPlaced (es ++ Send lane n ∷ []) n
send_step es lane n queued h =
    let e = Send lane n in
    let me : (n == n) ≡ true = eq-eqb n n refl in
    let some = unsent_queued es n queued in
    let place = h.place in
    let held = held_by es n (omega arith) in
    placed (es ++ e ∷ []) n 0 true false true true
    (unsent-push es e n ∙ rw me refl) (is_in_flight-push es e n ∙ rw me refl) (is_recovering-push es e n ∙ rw me refl)
    (same_commands es e n refl ∙ held.0) (not_ended-push es e n ∙ rw (held.1) refl) refl

done_step : (es : List Event) (n : ℕ) (o : Outcome) → is_in_flight es n ≡ true → IsPlaced es n → IsPlaced (es ++ Done n o ∷ []) n
done_step es n o flies h =
    let e = Done n o in
    let me : (n == n) ≡ true = eq-eqb n n refl in
    let place = h.place in
    let fly : bit (is_in_flight es n) ≡ 1 = ap bit flies in
    let held = held_by es n (omega arith) in
    let is : is_held es n ≡ true = rw (held.0, held.1) refl in
    let one : bit (is_held es n) ≡ 1 = ap bit is in
    let none : unsent_count es n ≡ 0 = omega arith in
    placed (es ++ e ∷ []) n 0 false (is_erring e) true (is_erring e)
    (unsent-push es e n ∙ rw none refl) (is_in_flight-push es e n ∙ rw me refl) (is_recovering-push es e n ∙ rw me refl)
    (same_commands es e n refl ∙ held.0) (not_ended-push es e n ∙ rw (held.1, me) (twice (is_erring e))) (erred (is_erring e))
  where
    twice : (b : Bool) → (true && not ((true && not b) || false)) ≡ b
    twice true = refl
    twice false = refl

    erred : (b : Bool) → 0 + 0 + bit b ≡ bit (true && b)
    erred true = refl
    erred false = refl

begun_requeue : (es : List Event) (n : ℕ) (o : Option Submission) → submission es n ≡ o → nat_lt n (commands es) ≡ true → begun es (Requeue n) n ≡ 1
begun_requeue es n None is lt = let le = ltb-true n (commands es) lt in absurd (past es n is le)
  where
    past : (es : List Event) (n : ℕ) → submission es n ≡ None → n < commands es → ⊥
    past es n is lt = let some = slice_get-get_or (submissions es) n (let s : Submission = record { driver = 0; device = 0; priority = 0; retries = 0; flags = record { qfreeze = false; qfrzdis = false } } in s) lt in cc
begun_requeue es n (Some s) is lt = rw (is, eq-eqb n n refl) refl

requeue_step : (es : List Event) (n : ℕ) → is_recovering es n ≡ true → IsPlaced es n → IsPlaced (es ++ Requeue n ∷ []) n
requeue_step es n recovers h =
    let e = Requeue n in
    let me : (n == n) ≡ true = eq-eqb n n refl in
    let place = h.place in
    let one : bit (is_recovering es n) ≡ 1 = ap bit recovers in
    let most = bit_le (is_held es n) in
    let held = held_by es n (omega arith) in
    let grounded : is_in_flight es n ≡ false = bit_none (is_in_flight es n) (omega arith) in
    let none : unsent_count es n ≡ 0 = omega arith in
    placed (es ++ e ∷ []) n 1 false false true true
    (unsent-push es e n ∙ rw (none, begun_requeue es n (submission es n) refl held.0) refl) (is_in_flight-push es e n ∙ grounded) (is_recovering-push es e n ∙ rw me refl)
    (same_commands es e n refl ∙ held.0) (not_ended-push es e n ∙ rw (held.1) refl) refl

finish_step : (es : List Event) (n : ℕ) → is_recovering es n ≡ true → IsPlaced es n → IsPlaced (es ++ Finish n ∷ []) n
finish_step es n recovers h =
    let e = Finish n in
    let me : (n == n) ≡ true = eq-eqb n n refl in
    let place = h.place in
    let one : bit (is_recovering es n) ≡ 1 = ap bit recovers in
    let most = bit_le (is_held es n) in
    let held = held_by es n (omega arith) in
    let grounded : is_in_flight es n ≡ false = bit_none (is_in_flight es n) (omega arith) in
    let none : unsent_count es n ≡ 0 = omega arith in
    placed (es ++ e ∷ []) n 0 false false true false
    (unsent-push es e n ∙ rw none refl) (is_in_flight-push es e n ∙ grounded) (is_recovering-push es e n ∙ rw me refl)
    (same_commands es e n refl ∙ held.0) (not_ended-push es e n ∙ rw (held.1, me) refl) refl

submit_step : (es : List Event) (e : Event) (s : Submission) (n : ℕ) → submission_of e ≡ Some s → not (list_any (ends (commands es)) es) ≡ true → begun es e n ≡ bit (commands es == n) → IsPlaced es n → IsPlaced (es ++ e ∷ []) n
submit_step es e s n is lives begins h = elim (cases_eq (commands es) n) [
  | inl same ↦
      let none = concerns-none e n (submit_concerns_none e s is) in
      let a = apart n e none in
      let place = h.place in
      let past : nat_lt n (commands es) ≡ false = le-ltb n (commands es) (omega arith) in
      let out : is_held es n ≡ false = rw past refl in
      let nowhere : bit (is_held es n) ≡ 0 = ap bit out in
      let grounded : is_in_flight es n ≡ false = bit_none (is_in_flight es n) (omega arith) in
      let fine : is_recovering es n ≡ false = bit_none (is_recovering es n) (omega arith) in
      let unsent_none : unsent_count es n ≡ 0 = omega arith in
      let one : begun es e n ≡ 1 = begins ∙ ap bit (eq-eqb (commands es) n same) in
      placed (es ++ e ∷ []) n 1 false false true true
      (unsent-push es e n ∙ rw (a.send, unsent_none, one) refl) (is_in_flight-push es e n ∙ rw (a.send_or_done) grounded) (is_recovering-push es e n ∙ rw none fine)
      (lt-ltb n (commands (es ++ e ∷ [])) (omega (arith, commands-submit es e s is))) (not_ended-push es e n ∙ rw (a.ends, ap (λ k. not (list_any (ends k) es)) (sym same) ∙ lives) refl) refl
  | inr ne ↦
      let none = concerns-none e n (submit_concerns_none e s is) in
      let zero_begun : begun es e n ≡ 0 = begins ∙ ap bit (ne_eqb (commands es) n ne) in
      let more : commands (es ++ e ∷ []) ≡ commands es + 1 = commands-submit es e s is in
      other_step es e n none zero_begun (ap (λ m. nat_lt n m) more ∙ next_lt n (commands es) (λ same. ne (sym same))) h
]
  where
    next_lt : (n m : ℕ) → n ≢ m → nat_lt n (m + 1) ≡ nat_lt n m
    next_lt n m ne = elim (cases_lt n m) [
      | inl lt ↦ lt-ltb n (m + 1) (omega arith) ∙ sym (lt-ltb n m lt)
      | inr le ↦ le-ltb n (m + 1) (more le ne) ∙ sym (le-ltb n m le)
    ]
      where
        more : m ≤ n → n ≢ m → m + 1 ≤ n
        more le ne = omega arith

-- so does each CCB, and none that wasn't submitted has ended
pub record AreStates (es : List Event) : Type 0 where
  pub placed : (n : ℕ) → IsPlaced es n
  pub lives : (n : ℕ) → commands es ≤ n → not (list_any (ends n) es) ≡ true

begun_other : (es : List Event) (m n : ℕ) (o : Option Submission) → submission es m ≡ o → n ≢ m → begun es (Requeue m) n ≡ 0
begun_other es m n None is ne = rw is refl
begun_other es m n (Some s) is ne = rw (is, ne_eqb m n (λ e. ne (sym e))) refl

at_ccb : (es : List Event) (e : Event) (m n : ℕ) → ccb_of e ≡ Some m → submission_of e ≡ None → (n ≢ m → begun es e n ≡ 0) → IsPlaced (es ++ e ∷ []) m → IsPlaced es n → IsPlaced (es ++ e ∷ []) n
at_ccb es e m n is none begins here h = elim (cases_eq n m) [
  | inl same ↦ rw same here
  | inr ne ↦ other_step es e n (concerns-other e m n is ne) (begins ne) (same_commands es e n none) h
]

place_step : (rules : Rules) (c : Topology) (es : List Event) (e : Event) → is_legal_event rules c (es, e) ≡ true → AreStates es → (n : ℕ) → IsPlaced (es ++ e ∷ []) n
place_step rules c es (Submit driver device priority retries flags) legal h n =
    submit_step es (Submit driver device priority retries flags) _ n refl (h.lives (commands es) (omega arith)) (zero-add (bit (commands es == n))) (h.placed n)
place_step rules c es (Send lane ccb) legal h n =
    let turn = (asks-send rules c es lane ccb legal).1 in
    at_ccb es (Send lane ccb) ccb n refl refl (λ ne. refl) (send_step es lane ccb (send_from_next c es lane ccb turn).sendable.queued (h.placed ccb)) (h.placed n)
place_step rules c es (Done ccb outcome) legal h n =
    at_ccb es (Done ccb outcome) ccb n refl refl (λ ne. refl) (done_step es ccb outcome (asks-done rules c es ccb outcome legal).1 (h.placed ccb)) (h.placed n)
place_step rules c es (Requeue ccb) legal h n =
    at_ccb es (Requeue ccb) ccb n refl refl (λ ne. begun_other es ccb n (submission es ccb) refl ne) (requeue_step es ccb (asks-requeue rules c es ccb legal).1 (h.placed ccb)) (h.placed n)
place_step rules c es (Finish ccb) legal h n =
    at_ccb es (Finish ccb) ccb n refl refl (λ ne. refl) (finish_step es ccb (asks-finish rules c es ccb legal).1 (h.placed ccb)) (h.placed n)
place_step rules c es e legal h n = other_step es e n refl refl (same_commands es e n refl) (h.placed n)

lives_step : (rules : Rules) (c : Topology) (es : List Event) (e : Event) → is_legal_event rules c (es, e) ≡ true → AreStates es → (n : ℕ) → commands (es ++ e ∷ []) ≤ n → not (list_any (ends n) (es ++ e ∷ [])) ≡ true
lives_step rules c es e legal h n le =
    let before : commands es ≤ n = omega (arith, commands-grow es e) in
    let none = concerns-past rules c es e n legal before in
    not_ended-push es e n ∙ rw (h.lives n before, (apart n e none).ends) refl

pub states_step : (rules : Rules) (c : Topology) (es : List Event) (e : Event) → is_legal_event rules c (es, e) ≡ true → AreStates es → AreStates (es ++ e ∷ [])
states_step rules c es e legal h = record { placed = place_step rules c es e legal h; lives = lives_step rules c es e legal h }

placed_none : (n : ℕ) → IsPlaced [] n
unfolding waiting stays_begun submissions is_in_flight is_recovering
placed_none n = record { place = rw (le-ltb n 0 (omega arith)) refl }

pub states_none : AreStates []
states_none = record { placed = placed_none; lives = λ n le. refl }

pub states-legal : (rules : Rules) (c : Topology) (es : List Event) → is_legal rules c es ≡ true → AreStates es
unfolding is_legal
states-legal rules c es legal = legal-induction rules c AreStates (states_step rules c) [] es legal states_none

-- one in flight or recovering was submitted and hasn't ended
pub in_flight_held : (es : List Event) (n : ℕ) → IsPlaced es n → is_in_flight es n ≡ true → (nat_lt n (commands es) ≡ true) × (not (list_any (ends n) es) ≡ true)
in_flight_held es n h flies = let place = h.place in let one : bit (is_in_flight es n) ≡ 1 = ap bit flies in held_by es n (omega arith)

pub recovering_held : (es : List Event) (n : ℕ) → IsPlaced es n → is_recovering es n ≡ true → (nat_lt n (commands es) ≡ true) × (not (list_any (ends n) es) ≡ true)
recovering_held es n h recovers = let place = h.place in let one : bit (is_recovering es n) ≡ 1 = ap bit recovers in held_by es n (omega arith)

-- at most one stay of a CCB is unsent, and none of one that recovers
pub unsent-most : (es : List Event) (n : ℕ) → IsPlaced es n → unsent_count es n ≤ 1
unsent-most es n h = let place = h.place in let most = bit_le (is_held es n) in omega arith

pub unsent-recovering : (es : List Event) (n : ℕ) → IsPlaced es n → is_recovering es n ≡ true → unsent_count es n ≡ 0
unsent-recovering es n h recovers =
    let place = h.place in
    let one : bit (is_recovering es n) ≡ 1 = ap bit recovers in
    let most = bit_le (is_held es n) in
    omega arith

-- one in flight has no unsent stay and isn't recovering
pub record IsFlying (es : List Event) (n : ℕ) : Type 0 where
  pub unsent : unsent_count es n ≡ 0
  pub recovering : is_recovering es n ≡ false

pub flying-states : (es : List Event) (n : ℕ) → AreStates es → is_in_flight es n ≡ true → IsFlying es n
flying-states es n h flies =
    let place = (h.placed n).place in
    let one : bit (is_in_flight es n) ≡ 1 = ap bit flies in
    let most = bit_le (is_held es n) in
    record { unsent = omega arith; recovering = bit_none (is_recovering es n) (omega arith) }

-- one with an unsent stay has no other, isn't in flight and isn't recovering
pub record IsWaiting (es : List Event) (n : ℕ) : Type 0 where
  pub unsent : unsent_count es n ≡ 1
  pub in_flight : is_in_flight es n ≡ false
  pub recovering : is_recovering es n ≡ false

pub waiting-states : (es : List Event) (n : ℕ) → AreStates es → 1 ≤ unsent_count es n → IsWaiting es n
waiting-states es n h some =
    let place = (h.placed n).place in
    let most = bit_le (is_held es n) in
    record { unsent = omega arith; in_flight = bit_none (is_in_flight es n) (omega arith); recovering = bit_none (is_recovering es n) (omega arith) }

-- one that wasn't submitted is neither in flight nor recovering
pub record IsNew (es : List Event) (n : ℕ) : Type 0 where
  pub in_flight : is_in_flight es n ≡ false
  pub recovering : is_recovering es n ≡ false

pub new-states : (es : List Event) (n : ℕ) → AreStates es → commands es ≤ n → IsNew es n
new-states es n h le =
    let place = (h.placed n).place in
    let past : nat_lt n (commands es) ≡ false = le-ltb n (commands es) le in
    let out : is_held es n ≡ false = rw past refl in
    let nowhere : bit (is_held es n) ≡ 0 = ap bit out in
    record { in_flight = bit_none (is_in_flight es n) (omega arith); recovering = bit_none (is_recovering es n) (omega arith) }
