-- what one event more makes of each CCB's row
use Rattle.std.proofs.Common.{◌≡◌, ℕ, ◌+◌, ◌-◌, ◌^◌, ◌<◌, ◌≤◌, Bool, true, false, cond, List, [], ◌∷◌, ◌++◌, length, set, map, get_or, refl, sym, ap, ◌∙◌, arith, Option, Some, None, inl, inr, add-zero, zero-add, length-append, length-set, slice_get, ◌&&◌, not, option_to_list, All, option_map}
use Rattle.std.proofs.lemmas.Bool.{cases_lt, cases_eq}
use Rattle.std.proofs.lemmas.Option.{slice_get-get_or, slice_get_past}
use Rattle.std.proofs.lemmas.List.{get_or_past, get_or-set_same, get_or-set_other, get_or_append_left, get_or_push, ext_get_or, length_push}
use Rattle.std.proofs.lemmas.List.Elements.{All-from_get_or}
use Rattle.std.proofs.lemmas.List.FromFn.{length-map-range_with_len, get_or-map-range_with_len}
use Rattle.std.proofs.lemmas.List.Sums.{count_by-le-length}
use Rattle.xpt_core.specs.Words.{Outcome, is_send_of, is_done_of, is_send_or_done_of, is_requeue_of, concerns, ccb_of, outcome_of, is_erring, ends, submission_of, submission, submissions, commands, ccbs, Event, Submission}
use Rattle.event_rules.proofs.PushLaws.{submissions-push}
use Rattle.event_rules.proofs.StateLaws.{is_in_flight-push, is_recovering-push}
use Rattle.event_rules.proofs.CcbLaws.{last_result-push, counted_requeues-push, requeues-push, not_ended-push, few_counted}
use Rattle.event_rules.proofs.ConcernLaws.{apart, concerns-other, concerns-none, submit_concerns_none}
use Rattle.event_rules.proofs.TotalLaws.{commands-submit, commands-none}
use Rattle.xpt_core.specs.Change.{fresh, counts, next_ccb, next_row, updated_at, IsSmall, Ccb}
use Rattle.xpt_core.specs.Ccbs.{is_alive, ccb_by, alive_ccb, rows}

-- the CCB after one event more
pub ccb_by-push : (es : List Event) (e : Event) (n : ℕ) (s : Submission) → ccb_by (es ++ e ∷ []) n s ≡ next_ccb n e (ccb_by es n s)
ccb_by-push es e n s = rw (is_in_flight-push es e n, is_recovering-push es e n, last_result-push es e n, counted_requeues-push es e n, requeues-push es e n) refl

tests_other : (r : Ccb) (a b d q : Bool) (s f : Bool) (o : Option Outcome) → a ≡ false → b ≡ false → d ≡ false → q ≡ false →
    ◌≡◌ {A = Ccb} (record {
      submission = r.submission;
      in_flight = cond a s r.in_flight;
      recovering = cond b f r.recovering;
      outcome = cond d o r.outcome;
      counted = r.counted + cond (q && counts r) 1 0;
      attempt = r.attempt + cond q 1 0;
    }) r
tests_other r a b d q s f o i j k l = rw (i, j, k, l, add-zero r.counted, add-zero r.attempt) refl

pub next_ccb-other : (n : ℕ) (e : Event) (r : Ccb) → concerns n e ≡ false → next_ccb n e r ≡ r
next_ccb-other n e r h =
    let a = apart n e h in
    tests_other r (is_send_or_done_of n e) (concerns n e) (is_done_of n e) (is_requeue_of n e) (is_send_of n e) (is_erring e) (outcome_of e) a.send_or_done h a.done a.requeue

next_row-other : (n : ℕ) (e : Event) (o : Option Ccb) → concerns n e ≡ false → next_row n e o ≡ o
next_row-other n e None h = refl
next_row-other n e (Some r) h = let a = apart n e h in rw (a.ends) (ap Some (next_ccb-other n e r h))

-- what was submitted as each
pub submission-past : (es : List Event) (n : ℕ) → commands es ≤ n → submission es n ≡ None
submission-past es n le = slice_get_past (submissions es) n le

slice_get-left : {X : Type 0} → (xs ys : List X) (n : ℕ) (d : X) → n < length xs → slice_get (xs ++ ys) n ≡ slice_get xs n
slice_get-left xs ys n d lt =
    slice_get-get_or (xs ++ ys) n d (omega (arith, length-append xs ys)) ∙ ap Some (get_or_append_left xs ys d n lt) ∙ sym (slice_get-get_or xs n d lt)

blank : Submission
blank = record { driver = 0; device = 0; priority = 0; retries = 0; flags = record { qfreeze = false; qfrzdis = false } }

pub submission-push : (es : List Event) (e : Event) (n : ℕ) → n < commands es → submission (es ++ e ∷ []) n ≡ submission es n
submission-push es e n lt = rw submissions-push (slice_get-left (submissions es) (option_to_list (submission_of e)) n blank lt)

pub submission-new : (es : List Event) (e : Event) (s : Submission) → submission_of e ≡ Some s → submission (es ++ e ∷ []) (commands es) ≡ Some s
submission-new es e s is =
    rw (submissions-push, is) (slice_get-get_or (submissions es ++ s ∷ []) (commands es) s (omega (arith, length_push (submissions es) s)) ∙ ap Some (get_or_push (submissions es) s s (commands es) refl))

-- the row of a CCB after one event more
alive_cases : (alive ended : Bool) (o : Option Submission) (n : ℕ) (e : Event) (es : List Event) → ends n e ≡ ended →
    cond (alive && not ended) (option_map (ccb_by (es ++ e ∷ []) n) o) None ≡ next_row n e (cond alive (option_map (ccb_by es n) o) None)
alive_cases true true None n e es is = refl
alive_cases true true (Some s) n e es is = rw is refl
alive_cases true false None n e es is = refl
alive_cases true false (Some s) n e es is = rw is (ap Some (ccb_by-push es e n s))
alive_cases false ended o n e es is = refl

pub alive_ccb-push : (es : List Event) (e : Event) (n : ℕ) → n < commands es → alive_ccb (es ++ e ∷ []) n ≡ next_row n e (alive_ccb es n)
unfolding alive_ccb
alive_ccb-push es e n lt = rw (not_ended-push es e n, submission-push es e n lt) (alive_cases (is_alive es n) (ends n e) (submission es n) n e es refl)

pub alive_ccb-past : (es : List Event) (n : ℕ) → commands es ≤ n → alive_ccb es n ≡ None
unfolding alive_ccb
alive_ccb-past es n le = rw (submission-past es n le) (both (is_alive es n))
  where
    both : (b : Bool) → cond b (option_map (ccb_by es n) None) None ≡ None
    both true = refl
    both false = refl

-- the rows
pub length-rows : (es : List Event) → length (rows es) ≡ commands es
unfolding rows
length-rows es = length-map-range_with_len (alive_ccb es) 0 (commands es)

pub get_or-rows : (es : List Event) (n : ℕ) → get_or (rows es) n None ≡ alive_ccb es n
unfolding rows
get_or-rows es n = elim (cases_lt n (commands es)) [
  | inl lt ↦ get_or-map-range_with_len (alive_ccb es) 0 (commands es) n n None lt (zero-add n)
  | inr le ↦ get_or_past (map (alive_ccb es) (ccbs es)) n None (omega (arith, length-map-range_with_len (alive_ccb es) 0 (commands es))) ∙ sym (alive_ccb-past es n le)
]

-- each row but the concerned one stays
row_other : (es : List Event) (e : Event) (n : ℕ) → n < commands es → concerns n e ≡ false → alive_ccb (es ++ e ∷ []) n ≡ alive_ccb es n
row_other es e n lt h = alive_ccb-push es e n lt ∙ next_row-other n e (alive_ccb es n) h

pub rows-same : (es : List Event) (e : Event) → submission_of e ≡ None → ((n : ℕ) → n < commands es → concerns n e ≡ false) → rows (es ++ e ∷ []) ≡ rows es
rows-same es e is h =
    ext_get_or None (rows (es ++ e ∷ [])) (rows es) (length-rows (es ++ e ∷ []) ∙ commands-none es e is ∙ sym (length-rows es))
    (λ n lt. let lt' : n < commands es = omega (arith, length-rows (es ++ e ∷ []), commands-none es e is) in
    get_or-rows (es ++ e ∷ []) n ∙ row_other es e n lt' (h n lt') ∙ sym (get_or-rows es n))

rows-set : (es : List Event) (e : Event) (c : ℕ) → submission_of e ≡ None → ccb_of e ≡ Some c → c < commands es → rows (es ++ e ∷ []) ≡ set (rows es) c (next_row c e (alive_ccb es c))
rows-set es e c none is lt =
    ext_get_or None (rows (es ++ e ∷ [])) (set (rows es) c (next_row c e (alive_ccb es c)))
    (length-rows (es ++ e ∷ []) ∙ commands-none es e none ∙ sym (length-rows es) ∙ sym (length-set (rows es) c (next_row c e (alive_ccb es c))))
    (λ n l. let l' : n < commands es = omega (arith, length-rows (es ++ e ∷ []), commands-none es e none) in
    get_or-rows (es ++ e ∷ []) n ∙ elim (cases_eq n c) [
      | inl same ↦ rw same (alive_ccb-push es e c lt ∙ sym (get_or-set_same (rows es) c (next_row c e (alive_ccb es c)) None (omega (arith, length-rows es))))
      | inr ne ↦ row_other es e n l' (concerns-other e c n is ne) ∙ sym (get_or-rows es n) ∙ sym (get_or-set_other (rows es) c n (next_row c e (alive_ccb es c)) None ne)
    ])

pub rows-updated : (es : List Event) (e : Event) (c : ℕ) → submission_of e ≡ None → ccb_of e ≡ Some c → rows (es ++ e ∷ []) ≡ updated_at e (rows es) c
rows-updated es e c none is = elim (cases_lt c (commands es)) [
  | inl lt ↦
      let at : slice_get (rows es) c ≡ Some (alive_ccb es c) = slice_get-get_or (rows es) c None (omega (arith, length-rows es)) ∙ ap Some (get_or-rows es c) in
      rows-set es e c none is lt ∙ rw at refl
  | inr le ↦
      let past : slice_get (rows es) c ≡ None = slice_get_past (rows es) c (omega (arith, length-rows es)) in
      rows-same es e none (λ n lt. concerns-other e c n is (λ same. omega arith)) ∙ rw past refl
]

born : (es : List Event) (e : Event) (s : Submission) → submission_of e ≡ Some s → ccb_by es (commands es) s ≡ fresh s → is_alive es (commands es) ≡ true → alive_ccb (es ++ e ∷ []) (commands es) ≡ Some (fresh s)
unfolding alive_ccb
born es e s is blank_row lives =
    let none = concerns-none e (commands es) (submit_concerns_none e s is) in
    rw (not_ended-push es e (commands es), (apart (commands es) e none).ends, lives, submission-new es e s is)
    (ap Some (ccb_by-push es e (commands es) s ∙ next_ccb-other (commands es) e (ccb_by es (commands es) s) none ∙ blank_row))

-- a submit puts the new row after the others
pub rows-submit : (es : List Event) (e : Event) (s : Submission) → submission_of e ≡ Some s → ccb_by es (commands es) s ≡ fresh s → is_alive es (commands es) ≡ true → rows (es ++ e ∷ []) ≡ rows es ++ Some (fresh s) ∷ []
rows-submit es e s is blank_row lives =
    ext_get_or None (rows (es ++ e ∷ [])) (rows es ++ Some (fresh s) ∷ [])
    (length-rows (es ++ e ∷ []) ∙ commands-submit es e s is ∙ ap (λ n. n + 1) (sym (length-rows es)) ∙ sym (length_push (rows es) (Some (fresh s))))
    (λ n lt. get_or-rows (es ++ e ∷ []) n ∙ elim (cases_lt n (commands es)) [
      | inl less ↦ row_other es e n less (concerns-none e n (submit_concerns_none e s is)) ∙ sym (get_or-rows es n)
          ∙ sym (get_or_append_left (rows es) (Some (fresh s) ∷ []) None n (omega (arith, length-rows es)))
      | inr le ↦
          let same : n ≡ commands es = omega (arith, length-rows (es ++ e ∷ []), commands-submit es e s is) in
          rw same (born es e s is blank_row lives ∙ sym (get_or_push (rows es) (Some (fresh s)) None (commands es) (length-rows es)))
    ])

-- a row counts no more than there are events
small_cases : (b : Bool) (o : Option Submission) (es : List Event) (n : ℕ) → length es < 2 ^ 32 - 1 → IsSmall (cond b (option_map (ccb_by es n) o) None)
small_cases true None es n lt = tt
small_cases true (Some s) es n lt = (omega (arith, few_counted es n, count_by-le-length (is_requeue_of n) es), omega (arith, count_by-le-length (is_requeue_of n) es))
small_cases false o es n lt = tt

small_row : (es : List Event) (n : ℕ) → length es < 2 ^ 32 - 1 → IsSmall (alive_ccb es n)
unfolding alive_ccb
small_row es n lt = small_cases (is_alive es n) (submission es n) es n lt

pub small_rows : (es : List Event) → length es < 2 ^ 32 - 1 → All IsSmall (rows es)
small_rows es lt = All-from_get_or IsSmall (rows es) None (λ n l. rw (get_or-rows es n) (small_row es n lt))
