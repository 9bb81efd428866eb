-- what one event more changes of all stays, of those that wait, and of the CCBs in flight
use Rattle.std.proofs.Common.{◌≡◌, ◌≢◌, ℕ, ◌+◌, ◌-◌, ◌<◌, ◌≤◌, Bool, true, false, cond, List, [], ◌∷◌, ◌++◌, length, refl, sym, ap, ◌∙◌, arith, Some, None, append-nil, add-zero, zero-add, length-append, not, ◌==◌, filter, count_by, option_to_list, option_map}
use Rattle.std.specs.List.{range_with_len, filter_map, cons_option}
use Rattle.std.proofs.lemmas.Bool.Decides.{nat_tests}
use Rattle.std.proofs.lemmas.List.Sums.{sum_by-cons, length-filter, count_by-le-length}
use Rattle.cam_types.specs.Lists.{prefixed_after}
use Rattle.event_rules.specs.Event.{is_send_of, is_requeue_of, submission_of, Event, Submit, Send, Requeue}
use Rattle.event_rules.specs.Counts.{round, commands, ccbs, submission, submissions, is_in_flight, Submission}
use Rattle.event_rules.specs.Stays.{stays_begun, stay_begun, waiting, is_unsent, Passage}
use Rattle.event_rules.proofs.PushLaws.{stays_begun-push, waiting-push, submissions-push}
use Rattle.event_rules.proofs.ListFacts.{filter-all, range_with_len-push, count_by-push}
use Rattle.event_rules.proofs.ShareLaws.{count-range_same, count-range_but}

-- it is a stay of the CCB, or of another than the one that is sent
abbrev pub is_of : ℕ → Passage → Bool
is_of ccb p = p.ccb == ccb

abbrev pub not_of : ℕ → Passage → Bool
not_of sent p = not (sent == p.ccb)

-- how many of its stays are unsent
abbrev pub unsent_count : List Event → ℕ → ℕ
unsent_count events ccb = count_by (is_of ccb) (waiting events)

-- the stay that a submit begins
abbrev pub submitted_stay : List Event → ℕ → ℕ → Passage
submitted_stay before device priority = record {
  ccb = commands before;
  attempt = 0;
  device = device;
  priority = priority;
  arrival = round before;
  requeued = false;
  place = length before;
}

-- the stay that a requeue begins
abbrev pub requeued_stay : List Event → ℕ → Submission → Passage
requeued_stay before ccb s = record {
  ccb = ccb;
  attempt = 1 + count_by (is_requeue_of ccb) before;
  device = s.device;
  priority = s.priority;
  arrival = round before + 1;
  requeued = true;
  place = length before;
}

-- how many CCBs were submitted
pub commands-push : (es : List Event) (e : Event) → commands (es ++ e ∷ []) ≡ commands es + length (option_to_list (submission_of e))
commands-push es e = ap length (submissions-push es e) ∙ length-append (submissions es) (option_to_list (submission_of e))

pub commands-submit : (es : List Event) (e : Event) (s : Submission) → submission_of e ≡ Some s → commands (es ++ e ∷ []) ≡ commands es + 1
commands-submit es e s is = commands-push es e ∙ ap (λ o. commands es + length (option_to_list o)) is

pub commands-none : (es : List Event) (e : Event) → submission_of e ≡ None → commands (es ++ e ∷ []) ≡ commands es
commands-none es e is = commands-push es e ∙ ap (λ o. commands es + length (option_to_list o)) is ∙ add-zero (commands es)

-- CCBs in flight
abbrev pub flying : List Event → ℕ
flying es = count_by (is_in_flight es) (ccbs es)

module _ (es : List Event) (e : Event) where
  flying-before : submission_of e ≡ None → flying (es ++ e ∷ []) ≡ count_by (is_in_flight (es ++ e ∷ [])) (ccbs es)
  flying-before none = ap (λ n. count_by (is_in_flight (es ++ e ∷ [])) (range_with_len 0 n)) (commands-none es e none)

  pub flying-same : submission_of e ≡ None → ((k : ℕ) → is_in_flight (es ++ e ∷ []) k ≡ is_in_flight es k) → flying (es ++ e ∷ []) ≡ flying es
  flying-same none h = flying-before none ∙ count-range_same (is_in_flight es) (is_in_flight (es ++ e ∷ [])) 0 (commands es) (λ k le lt. h k)

  pub flying-at : submission_of e ≡ None → (c : ℕ) → c < commands es → ((k : ℕ) → k ≢ c → is_in_flight (es ++ e ∷ []) k ≡ is_in_flight es k) → (x y : Bool) → is_in_flight es c ≡ x → is_in_flight (es ++ e ∷ []) c ≡ y →
      flying (es ++ e ∷ []) + cond x 1 0 ≡ flying es + cond y 1 0
  flying-at none c lt h x y ex ey =
      let at : 0 + c ≡ c = zero-add c in
      let but = count-range_but (is_in_flight es) (is_in_flight (es ++ e ∷ [])) 0 (commands es) c lt (λ k ne. h k (λ i. ne (i ∙ sym at))) in
      omega (arith, flying-before none, but, ap (λ b. cond {A = ℕ} b 1 0) (ap (is_in_flight es) at ∙ ex), ap (λ b. cond {A = ℕ} b 1 0) (ap (is_in_flight (es ++ e ∷ [])) at ∙ ey))

  pub flying-submit : (s : Submission) → submission_of e ≡ Some s → ((k : ℕ) → is_in_flight (es ++ e ∷ []) k ≡ is_in_flight es k) → is_in_flight es (commands es) ≡ false → flying (es ++ e ∷ []) ≡ flying es
  flying-submit s is h new =
      let p' = is_in_flight (es ++ e ∷ []) in
      let range : count_by p' (range_with_len 0 (commands es + 1)) ≡ count_by p' (ccbs es) + cond (p' (0 + commands es)) 1 0 =
      ap (count_by p') (range_with_len-push 0 (commands es)) ∙ count_by-push p' (ccbs es) (0 + commands es) in
      let none : ◌≡◌ {A = ℕ} (cond (p' (0 + commands es)) 1 0) 0 = ap (λ k. cond {A = ℕ} (p' k) 1 0) (zero-add (commands es)) ∙ ap (λ b. cond {A = ℕ} b 1 0) (h (commands es) ∙ new) in
      ap (λ n. count_by p' (range_with_len 0 n)) (commands-submit es e s is) ∙ range ∙ ap (λ n. count_by p' (ccbs es) + n) none ∙ add-zero (count_by p' (ccbs es))
      ∙ count-range_same (is_in_flight es) p' 0 (commands es) (λ k le lt. h k)

  -- stays, and those without a send
  pub begun-none : stay_begun (es, e) ≡ None → length (stays_begun (es ++ e ∷ [])) ≡ length (stays_begun es)
  begun-none none = ap length (stays_begun-push es e ∙ ap (λ o. stays_begun es ++ option_to_list o) none ∙ append-nil (stays_begun es))

  pub begun-one : (p : Passage) → stay_begun (es, e) ≡ Some p → length (stays_begun (es ++ e ∷ [])) ≡ length (stays_begun es) + 1
  begun-one p is = ap length (stays_begun-push es e ∙ ap (λ o. stays_begun es ++ option_to_list o) is) ∙ length-append (stays_begun es) (p ∷ [])

  kept-all : ((x : Passage) → not (is_send_of x.ccb e) ≡ true) → waiting (es ++ e ∷ []) ≡ waiting es ++ option_to_list (stay_begun (es, e))
  kept-all unsent = waiting-push es e ∙ ap (λ ps. ps ++ option_to_list (stay_begun (es, e))) (filter-all (λ (x : Passage). not (is_send_of x.ccb e)) unsent (waiting es))

  pub waiting-none : ((x : Passage) → not (is_send_of x.ccb e) ≡ true) → stay_begun (es, e) ≡ None → length (waiting (es ++ e ∷ [])) ≡ length (waiting es)
  waiting-none unsent none = ap length (kept-all unsent ∙ ap (λ o. waiting es ++ option_to_list o) none ∙ append-nil (waiting es))

  pub waiting-one : (p : Passage) → ((x : Passage) → not (is_send_of x.ccb e) ≡ true) → stay_begun (es, e) ≡ Some p → length (waiting (es ++ e ∷ [])) ≡ length (waiting es) + 1
  waiting-one p unsent is = ap length (kept-all unsent ∙ ap (λ o. waiting es ++ option_to_list o) is) ∙ length-append (waiting es) (p ∷ [])

-- of those that wait, the CCB's are sent
length_cases : (x : Passage) (xs : List Passage) (b : Bool) → length (cond b (x ∷ xs) xs) ≡ cond b 1 0 + length xs
length_cases x xs true = omega arith
length_cases x xs false = omega arith

one_comes_first : (a b : ℕ) → ◌≡◌ {A = ℕ} (cond (not (a == b)) 1 0 + cond (b == a) 1 0) 1
one_comes_first a b = grind (arith, nat_tests)

sent_parts : (ccb : ℕ) (ps : List Passage) → length (filter (not_of ccb) ps) + count_by (is_of ccb) ps ≡ length ps
sent_parts ccb [] = refl
sent_parts ccb (p ∷ ps) =
    omega (arith, length_cases p (filter (not_of ccb) ps) (not_of ccb p), one_comes_first ccb p.ccb, sent_parts ccb ps, sum_by-cons (λ (x : Passage). cond (is_of ccb x) 1 0) p ps)

pub waiting-send : (es : List Event) (lane ccb : ℕ) → unsent_count es ccb ≡ 1 → length (waiting (es ++ Send lane ccb ∷ [])) ≡ length (waiting es) - 1
waiting-send es lane ccb one =
    let left : length (waiting (es ++ Send lane ccb ∷ [])) ≡ length (filter (not_of ccb) (waiting es)) = ap length (waiting-push es (Send lane ccb) ∙ append-nil (filter (not_of ccb) (waiting es))) in
    omega (arith, left, one, sent_parts ccb (waiting es))

pub some_waits : (es : List Event) (ccb : ℕ) → unsent_count es ccb ≡ 1 → 0 < length (waiting es)
some_waits es ccb one = omega (arith, one, sent_parts ccb (waiting es))

-- each submission begins a stay
begins_stay : (before : List Event) (x : Event) (ss : List Submission) (ps : List Passage) → length ss ≤ length ps → length (cons_option (submission_of x) ss) ≤ length (cons_option (stay_begun (before, x)) ps)
begins_stay before (Submit driver device priority retries flags) ss ps le = omega (arith, le)
begins_stay before (Requeue ccb) ss ps le = elim (submission before ccb) as (λ o. length ss ≤ length (cons_option (option_map (requeued_stay before ccb) o) ps)) [
  | None ↦ le
  | Some s ↦ omega (arith, le)
]
begins_stay before (Send lane ccb) ss ps le = le
begins_stay before _ ss ps le = le

begin_after : (before xs : List Event) → length (filter_map submission_of xs) ≤ length (filter_map stay_begun (prefixed_after before xs))
begin_after before [] = omega arith
begin_after before (x ∷ xs) = begins_stay before x (filter_map submission_of xs) (filter_map stay_begun (prefixed_after (before ++ x ∷ []) xs)) (begin_after (before ++ x ∷ []) xs)

pub commands-stays : (es : List Event) → commands es ≤ length (stays_begun es)
unfolding submissions stays_begun
commands-stays es = begin_after [] es

-- no more stays wait than began
pub few_waiting : (es : List Event) → length (waiting es) ≤ length (stays_begun es)
unfolding waiting
few_waiting es = omega (arith, length-filter (is_unsent es) (stays_begun es), count_by-le-length (is_unsent es) (stays_begun es))
