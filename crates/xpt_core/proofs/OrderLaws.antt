-- what one event more changes of the stays that wait at a device
use Rattle.std.proofs.Common.{◌≡◌, ℕ, ◌+◌, ◌<◌, ◌≤◌, Bool, true, false, cond, List, [], ◌∷◌, ◌++◌, length, refl, ap, ◌∙◌, arith, Option, Some, None, append-nil, append_assoc, length-append, map, drop, not, ◌==◌, ◌&&◌, ◌||◌, if◌then◌else◌, nat_lt, nat_le, filter, option_to_list, All, option_map}
use Rattle.std.specs.List.{list_all, filter_map, cons_option}
use Rattle.xpt_core.specs.Words.{Flags, prefixed, prefixed_after, is_tick, is_send_of, round, submission, stays_begun, waiting, stay_begun, is_unsent, is_at, queue, queue_key, sorted_by, Event, Submit, Requeue, Tick, Submission, Passage, enter, enter_all}
use Rattle.std.proofs.lemmas.Bool.{and_parts, and_from, lt-ltb, ltb-true, eqb-true}
use Rattle.std.proofs.lemmas.Bool.Decides.{nat_tests}
use Rattle.std.proofs.lemmas.List.{map-append}
use Rattle.std.proofs.lemmas.List.Elements.{All-head, All-tail}
use Rattle.event_rules.proofs.PushLaws.{places-stays_begun, place-stay_begun}
use Rattle.event_rules.proofs.ListFacts.{filter-all}
use Rattle.event_rules.proofs.TurnLaws.{round-more}
use Rattle.event_rules.proofs.SortedLemmas.{sorted_by-push}
use Rattle.event_rules.proofs.QueueLaws.{queue-push, later-push, in_order-tick, arrived-waiting, begun_from, kept_stay, le_test, test_le}
use Rattle.event_rules.proofs.TestLemmas.{list_all-filter, list_all-filtered, list_all-weaker}
use Rattle.event_rules.proofs.TotalLaws.{submitted_stay, requeued_stay}
use Rattle.xpt_core.specs.Device.{entry, in_order, is_later, later}
use Rattle.xpt_core.proofs.EntryLemmas.{is_behind, all_behind, are_behind, all-sorted, entry-insert, entry-fold}

-- an event that begins and sends no stay leaves the queues as they were
module _ (es : List Event) (e : Event) (d : ℕ) where
  none_gone : (test : Passage → Bool) (ps : List Passage) → stay_begun (es, e) ≡ None → ((p : Passage) → not (is_send_of p.ccb e) ≡ true) →
      filter (λ (p : Passage). not (is_send_of p.ccb e)) ps ++ filter test (option_to_list (stay_begun (es, e))) ≡ ps
  none_gone test ps none unsent =
      ap (λ o. filter (λ (p : Passage). not (is_send_of p.ccb e)) ps ++ filter test (option_to_list o)) none
      ∙ append-nil (filter (λ (p : Passage). not (is_send_of p.ccb e)) ps) ∙ filter-all (λ (p : Passage). not (is_send_of p.ccb e)) unsent ps

  pub in_order-same : is_tick e ≡ false → stay_begun (es, e) ≡ None → ((p : Passage) → not (is_send_of p.ccb e) ≡ true) → in_order (es ++ e ∷ []) d ≡ in_order es d
  in_order-same still none unsent = ap (sorted_by queue_key) (queue-push es e d still ∙ none_gone (is_at d (round es)) (queue es d) none unsent)

  pub later-same : is_tick e ≡ false → stay_begun (es, e) ≡ None → ((p : Passage) → not (is_send_of p.ccb e) ≡ true) → later (es ++ e ∷ []) d ≡ later es d
  later-same still none unsent = later-push es e d still ∙ none_gone (is_later d (round es)) (later es d) none unsent

-- it began before, in no later round
abbrev came_before : ℕ → ℕ → Passage → Bool
came_before n r p = nat_le p.arrival r && nat_lt p.place n

begun_before : (n : ℕ) (ps : List Passage) → All (λ (p : Passage). p.place < n) ps → list_all (λ (p : Passage). nat_lt p.place n) ps ≡ true
begun_before n [] h = refl
begun_before n (p ∷ ps) h =
    let here : p.place < n = All-head (λ (q : Passage). q.place < n) p ps h in
    and_from _ _ (lt-ltb p.place n here) (begun_before n ps (All-tail (λ (q : Passage). q.place < n) p ps h))

all-both : {X : Type 0} (p q : X → Bool) (xs : List X) → list_all p xs ≡ true → list_all q xs ≡ true → list_all (λ x. p x && q x) xs ≡ true
all-both p q [] h g = refl
all-both p q (x ∷ xs) h g =
    let one = and_parts (p x) (list_all p xs) h in
    let two = and_parts (q x) (list_all q xs) g in
    and_from _ _ (and_from _ _ one.0 two.0) (all-both p q xs one.1 two.1)

places-waiting : (es : List Event) → list_all (λ (p : Passage). nat_lt p.place (length es)) (waiting es) ≡ true
unfolding waiting
places-waiting es = list_all-filtered (is_unsent es) (λ (p : Passage). nat_lt p.place (length es)) (stays_begun es) (begun_before (length es) (stays_begun es) (places-stays_begun es))

queued-before : (es : List Event) (d : ℕ) → list_all (came_before (length es) (round es)) (queue es d) ≡ true
unfolding queue
queued-before es d =
    all-both (λ (p : Passage). nat_le p.arrival (round es)) (λ (p : Passage). nat_lt p.place (length es)) (queue es d)
    (list_all-weaker (is_at d (round es)) (λ (p : Passage). nat_le p.arrival (round es)) (queue es d) (λ p h. (and_parts (p.device == d) (nat_le p.arrival (round es)) h).1) (list_all-filter (is_at d (round es)) (waiting es)))
    (list_all-filtered (is_at d (round es)) (λ (p : Passage). nat_lt p.place (length es)) (waiting es) (places-waiting es))

-- the newest stay, which no requeue began, is after those
newest_numbers : (r n a k p : ℕ) → k ≤ 1 → (nat_le a r && nat_lt p n) ≡ true →
    not (nat_lt r a || ((r == a) && (nat_lt 1 k || ((1 == k) && (nat_lt n p || ((n == p) && false)))))) ≡ true
newest_numbers r n a k p le h = grind (arith, nat_tests)

kind : (b : Bool) → (if b then 0 else 1) ≤ 1
kind true = omega arith
kind false = omega arith

newest-behind : (r n : ℕ) (p q : Passage) → p.arrival ≡ r → p.place ≡ n → p.requeued ≡ false → came_before n r q ≡ true → is_behind p q ≡ true
newest-behind r n p q at place new h =
    rw (at, place, new) (newest_numbers r n q.arrival (if q.requeued then 0 else 1) q.place (kind q.requeued) h)

submit_cases : (es : List Event) (d : ℕ) (p : Passage) (b : Bool) → p.arrival ≡ round es → p.place ≡ length es → p.requeued ≡ false →
    map entry (sorted_by queue_key (queue es d ++ cond b (p ∷ []) [])) ≡ cond b (enter (map entry (in_order es d)) (entry p)) (map entry (in_order es d))
submit_cases es d p true at place new =
    ap (map entry) (sorted_by-push queue_key (queue es d) p)
    ∙ entry-insert p (in_order es d) (all-sorted (is_behind p) (queue es d)
    (list_all-weaker (came_before (length es) (round es)) (is_behind p) (queue es d) (λ q. newest-behind (round es) (length es) p q at place new) (queued-before es d)))
submit_cases es d p false at place new = ap (λ ps. map entry (sorted_by queue_key ps)) (append-nil (queue es d))

here_now : (r : ℕ) (b : Bool) (ps : List Passage) → cond (b && nat_le r r) ps [] ≡ cond b ps []
here_now r true ps = rw (le_test r r (omega arith)) refl
here_now r false ps = refl

not_yet : (r : ℕ) (b : Bool) (ps : List Passage) → cond (b && nat_le (r + 1) r) ps [] ≡ []
not_yet r true ps = let late : nat_le (r + 1) r ≡ false = grind (arith, nat_tests) in rw late refl
not_yet r false ps = refl

not_later : (r : ℕ) (b : Bool) (ps : List Passage) → cond (b && nat_lt r r) ps [] ≡ []
not_later r true ps = let late : nat_lt r r ≡ false = grind (arith, nat_tests) in rw late refl
not_later r false ps = refl

later_now : (r : ℕ) (b : Bool) (ps : List Passage) → cond (b && nat_lt r (r + 1)) ps [] ≡ cond b ps []
later_now r true ps = let late : nat_lt r (r + 1) ≡ true = grind (arith, nat_tests) in rw late refl
later_now r false ps = refl

module _ (es : List Event) (d : ℕ) where
  -- what no send drops
  abbrev kept : Event → List Passage → List Passage
  kept e ps = filter (λ (p : Passage). not (is_send_of p.ccb e)) ps

  -- a submit
  queue-submit : (driver device priority retries : ℕ) (flags : Flags) → queue (es ++ Submit driver device priority retries flags ∷ []) d ≡ queue es d ++ cond (device == d) (submitted_stay es device priority ∷ []) []
  queue-submit driver device priority retries flags =
      let e = Submit driver device priority retries flags in
      queue-push es e d refl ∙ ap (λ ps. ps ++ filter (is_at d (round es)) (submitted_stay es device priority ∷ [])) (filter-all (λ (p : Passage). not (is_send_of p.ccb e)) (λ p. refl) (queue es d))
      ∙ ap (λ ps. queue es d ++ ps) (here_now (round es) (device == d) (submitted_stay es device priority ∷ []))

  pub waiting-submit : (driver device priority retries : ℕ) (flags : Flags) → map entry (in_order (es ++ Submit driver device priority retries flags ∷ []) d)
      ≡ cond (device == d) (enter (map entry (in_order es d)) (entry (submitted_stay es device priority))) (map entry (in_order es d))
  waiting-submit driver device priority retries flags =
      ap (λ ps. map entry (sorted_by queue_key ps)) (queue-submit driver device priority retries flags) ∙ submit_cases es d (submitted_stay es device priority) (device == d) refl refl refl

  pub later-submit : (driver device priority retries : ℕ) (flags : Flags) → later (es ++ Submit driver device priority retries flags ∷ []) d ≡ later es d
  later-submit driver device priority retries flags =
      let e = Submit driver device priority retries flags in
      later-push es e d refl ∙ ap (λ ps. ps ++ filter (is_later d (round es)) (submitted_stay es device priority ∷ [])) (filter-all (λ (p : Passage). not (is_send_of p.ccb e)) (λ p. refl) (later es d))
      ∙ ap (λ ps. later es d ++ ps) (not_later (round es) (device == d) (submitted_stay es device priority ∷ [])) ∙ append-nil (later es d)

  -- a requeue
  pub in_order-requeue : (ccb : ℕ) (s : Submission) → submission es ccb ≡ Some s → in_order (es ++ Requeue ccb ∷ []) d ≡ in_order es d
  in_order-requeue ccb s is =
      let e = Requeue ccb in
      ap (sorted_by queue_key) (queue-push es e d refl
      ∙ ap (λ ps. ps ++ filter (is_at d (round es)) (option_to_list (stay_begun (es, e)))) (filter-all (λ (p : Passage). not (is_send_of p.ccb e)) (λ p. refl) (queue es d))
      ∙ ap (λ o. queue es d ++ filter (is_at d (round es)) (option_to_list (option_map (requeued_stay es ccb) o))) is
      ∙ ap (λ ps. queue es d ++ ps) (not_yet (round es) (s.device == d) (requeued_stay es ccb s ∷ [])) ∙ append-nil (queue es d))

  later_cases : (ps : List Passage) (p : Passage) (b : Bool) → map entry (ps ++ cond b (p ∷ []) []) ≡ cond b (map entry ps ++ entry p ∷ []) (map entry ps)
  later_cases ps p true = map-append entry ps (p ∷ [])
  later_cases ps p false = ap (map entry) (append-nil ps)

  pub later-requeue : (ccb : ℕ) (s : Submission) → submission es ccb ≡ Some s →
      map entry (later (es ++ Requeue ccb ∷ []) d) ≡ cond (s.device == d) (map entry (later es d) ++ entry (requeued_stay es ccb s) ∷ []) (map entry (later es d))
  later-requeue ccb s is =
      let e = Requeue ccb in
      ap (map entry) (later-push es e d refl
      ∙ ap (λ ps. ps ++ filter (is_later d (round es)) (option_to_list (stay_begun (es, e)))) (filter-all (λ (p : Passage). not (is_send_of p.ccb e)) (λ p. refl) (later es d))
      ∙ ap (λ o. later es d ++ filter (is_later d (round es)) (option_to_list (option_map (requeued_stay es ccb) o))) is
      ∙ ap (λ ps. later es d ++ ps) (later_now (round es) (s.device == d) (requeued_stay es ccb s ∷ [])))
      ∙ later_cases (later es d) (requeued_stay es ccb s) (s.device == d)

-- a tick
-- the stays begin one after another
abbrev are_rising : List Passage → Bool
are_rising [] = true
are_rising (p ∷ ps) = list_all (λ (q : Passage). nat_lt p.place q.place) ps && are_rising ps

rising_cases : (n : ℕ) (o : Option Passage) (ps : List Passage) → ((p : Passage) → o ≡ Some p → p.place ≡ n) →
    list_all (λ (q : Passage). nat_le (n + 1) q.place) ps ≡ true → are_rising ps ≡ true → are_rising (cons_option o ps) ≡ true
rising_cases n None ps at h k = k
rising_cases n (Some p) ps at h k =
    and_from _ _ (list_all-weaker (λ (q : Passage). nat_le (n + 1) q.place) (λ (q : Passage). nat_lt p.place q.place) ps
    (λ q le. lt-ltb p.place q.place (omega (arith, at p refl, test_le (n + 1) q.place le))) h) k

rising_after : (before xs : List Event) → are_rising (filter_map stay_begun (prefixed_after before xs)) ≡ true
rising_after before [] = refl
rising_after before (x ∷ xs) =
    rising_cases (length before) (stay_begun (before, x)) (filter_map stay_begun (prefixed_after (before ++ x ∷ []) xs)) (λ p e. place-stay_begun (before, x) p e)
    (begun_from (length before + 1) (before ++ x ∷ []) xs (omega (arith, length-append before (x ∷ [])))) (rising_after (before ++ x ∷ []) xs)

rising-filter : (p : Passage → Bool) (xs : List Passage) → are_rising xs ≡ true → are_rising (filter p xs) ≡ true
rising-filter p [] h = refl
rising-filter p (x ∷ xs) h =
    let parts = and_parts (list_all (λ (q : Passage). nat_lt x.place q.place) xs) (are_rising xs) h in
    let rest = rising-filter p xs parts.1 in
    elim (p x) as (λ t. are_rising (cond t (x ∷ filter p xs) (filter p xs)) ≡ true) [
      | true ↦ and_from _ _ (list_all-filtered p (λ (q : Passage). nat_lt x.place q.place) xs parts.0) rest
      | false ↦ rest
    ]

rising-later : (es : List Event) (d : ℕ) → are_rising (later es d) ≡ true
unfolding waiting stays_begun
rising-later es d = rising-filter (is_later d (round es)) (waiting es) (rising-filter (is_unsent es) (filter_map stay_begun (prefixed es)) (rising_after [] es))

-- a stay that arrives after a round was begun by a requeue
abbrev is_due : ℕ → Passage → Bool
is_due r p = p.requeued || nat_le p.arrival r

requeued_cases : (o : Option Submission) (make : Submission → Passage) (r : ℕ) → ((x : Submission) → (make x).requeued ≡ true) → (p : Passage) → option_map make o ≡ Some p → is_due r p ≡ true
requeued_cases None make r h p e = absurd (cc)
requeued_cases (Some x) make r h p e = let same : make x ≡ p = cc in rw (← same) (rw (h x) refl)

submitted_due : (q p : Passage) (r : ℕ) → q.arrival ≤ r → Some q ≡ Some p → is_due r p ≡ true
submitted_due q p r h e =
    let same : q ≡ p = cc in
    rw (← same) (elim q.requeued as (λ b. (b || nat_le q.arrival r) ≡ true) [ true ↦ refl | false ↦ le_test q.arrival r h ])

due-stay_begun : (m : List Event × Event) (r : ℕ) (p : Passage) → round m.0 ≤ r → stay_begun m ≡ Some p → is_due r p ≡ true
due-stay_begun (before, Submit driver device priority retries flags) r p le e = submitted_due (submitted_stay before device priority) p r le e
due-stay_begun (before, Requeue ccb) r p le e = requeued_cases (submission before ccb) (requeued_stay before ccb) r (λ x. refl) p e
due-stay_begun (before, _) r p le e = absurd (cc)

due_after : (es xs : List Event) (r : ℕ) → round (es ++ xs) ≤ r → list_all (is_due r) (filter_map stay_begun (prefixed_after es xs)) ≡ true
due_after es [] r le = refl
due_after es (x ∷ xs) r le =
    kept_stay (is_due r) (stay_begun (es, x)) (filter_map stay_begun (prefixed_after (es ++ x ∷ []) xs))
    (λ p e. due-stay_begun (es, x) r p (omega (arith, round-more es (x ∷ xs), le)) e)
    (due_after (es ++ x ∷ []) xs r (rw (append_assoc es (x ∷ []) xs) le))

due-waiting : (es : List Event) → list_all (is_due (round es)) (waiting es) ≡ true
unfolding waiting stays_begun
due-waiting es = list_all-filtered (is_unsent es) (is_due (round es)) (filter_map stay_begun (prefixed es)) (due_after [] es (round es) (omega arith))

-- what is known of those that wait for the next round
abbrev is_next : ℕ → Passage → Bool
is_next r p = p.requeued && (p.arrival == r + 1)

next_cases : (d r : ℕ) (p : Passage) (b : Bool) → p.requeued ≡ b → ((p.device == d) && nat_lt r p.arrival) ≡ true → (b || nat_le p.arrival r) ≡ true → nat_le p.arrival (r + 1) ≡ true → (b && (p.arrival == r + 1)) ≡ true
next_cases d r p true is later due le =
    let more = (and_parts (p.device == d) (nat_lt r p.arrival) later).1 in grind (arith, nat_tests)
next_cases d r p false is later due le =
    let more = (and_parts (p.device == d) (nat_lt r p.arrival) later).1 in
    absurd (omega (arith, ltb-true r p.arrival more, test_le p.arrival r due))

all-three : {X : Type 0} (p q r t : X → Bool) (xs : List X) → ((x : X) → p x ≡ true → q x ≡ true → r x ≡ true → t x ≡ true) → list_all p xs ≡ true → list_all q xs ≡ true → list_all r xs ≡ true → list_all t xs ≡ true
all-three p q r t [] f h g k = refl
all-three p q r t (x ∷ xs) f h g k =
    let one = and_parts (p x) (list_all p xs) h in
    let two = and_parts (q x) (list_all q xs) g in
    let three = and_parts (r x) (list_all r xs) k in
    and_from _ _ (f x one.0 two.0 three.0) (all-three p q r t xs f one.1 two.1 three.1)

next-later : (es : List Event) (d : ℕ) → list_all (is_next (round es)) (later es d) ≡ true
next-later es d =
    all-three (is_later d (round es)) (is_due (round es)) (λ (p : Passage). nat_le p.arrival (round es + 1)) (is_next (round es)) (later es d)
    (λ p h g k. next_cases d (round es) p p.requeued refl h g k)
    (list_all-filter (is_later d (round es)) (waiting es))
    (list_all-filtered (is_later d (round es)) (is_due (round es)) (waiting es) (due-waiting es))
    (list_all-filtered (is_later d (round es)) (λ (p : Passage). nat_le p.arrival (round es + 1)) (waiting es) (arrived-waiting es))

-- a stay of the next round is after those that have arrived
behind_numbers : (r a k p a' k' p' : ℕ) → a ≡ r + 1 → nat_le a' r ≡ true →
    not (nat_lt a a' || ((a == a') && (nat_lt k k' || ((k == k') && (nat_lt p p' || ((p == p') && false)))))) ≡ true
behind_numbers r a k p a' k' p' at le = grind (arith, nat_tests)

behind_arrived : (r n : ℕ) (p q : Passage) → is_next r p ≡ true → came_before n r q ≡ true → is_behind p q ≡ true
behind_arrived r n p q next came =
    behind_numbers r p.arrival (if p.requeued then 0 else 1) p.place q.arrival (if q.requeued then 0 else 1) q.place
    (eqb-true p.arrival (r + 1) (and_parts p.requeued (p.arrival == r + 1) next).1) (and_parts (nat_le q.arrival r) (nat_lt q.place n) came).0

all_behind_arrived : (r n : ℕ) (ps ys : List Passage) → list_all (is_next r) ps ≡ true → list_all (came_before n r) ys ≡ true → all_behind ps (sorted_by queue_key ys) ≡ true
all_behind_arrived r n [] ys h g = refl
all_behind_arrived r n (p ∷ ps) ys h g =
    let parts = and_parts (is_next r p) (list_all (is_next r) ps) h in
    and_from _ _ (all-sorted (is_behind p) ys (list_all-weaker (came_before n r) (is_behind p) ys (λ q. behind_arrived r n p q parts.0) g)) (all_behind_arrived r n ps ys parts.1 g)

-- and after those of the next round that were requeued before it
rising_numbers : (r a k p a' k' p' : ℕ) → a ≡ r + 1 → a' ≡ r + 1 → k ≡ 0 → k' ≡ 0 → nat_lt p' p ≡ true →
    not (nat_lt a a' || ((a == a') && (nat_lt k k' || ((k == k') && (nat_lt p p' || ((p == p') && false)))))) ≡ true
rising_numbers r a k p a' k' p' at at' e e' lt = grind (arith, nat_tests)

no_kind : (b : Bool) → b ≡ true → ◌≡◌ {A = ℕ} (if b then 0 else 1) 0
no_kind b e = ap (λ x. cond {A = ℕ} x 0 1) e

behind_rising : (r : ℕ) (p q : Passage) → is_next r p ≡ true → is_next r q ≡ true → nat_lt p.place q.place ≡ true → is_behind q p ≡ true
behind_rising r p q here there lt =
    let one = and_parts p.requeued (p.arrival == r + 1) here in
    let two = and_parts q.requeued (q.arrival == r + 1) there in
    rising_numbers r q.arrival (if q.requeued then 0 else 1) q.place p.arrival (if p.requeued then 0 else 1) p.place
    (eqb-true q.arrival (r + 1) two.1) (eqb-true p.arrival (r + 1) one.1) (no_kind q.requeued two.0) (no_kind p.requeued one.0) lt

behind_first : (r : ℕ) (p : Passage) (ps : List Passage) → is_next r p ≡ true → list_all (is_next r) ps ≡ true → list_all (λ (q : Passage). nat_lt p.place q.place) ps ≡ true → list_all (λ q. is_behind q p) ps ≡ true
behind_first r p [] one h g = refl
behind_first r p (q ∷ qs) one h g =
    let here = and_parts (is_next r q) (list_all (is_next r) qs) h in
    let up = and_parts (nat_lt p.place q.place) (list_all (λ (x : Passage). nat_lt p.place x.place) qs) g in
    and_from _ _ (behind_rising r p q one here.0 up.0) (behind_first r p qs one here.1 up.1)

behind_each : (r : ℕ) (ps : List Passage) → list_all (is_next r) ps ≡ true → are_rising ps ≡ true → are_behind ps ≡ true
behind_each r [] h g = refl
behind_each r (p ∷ ps) h g =
    let here = and_parts (is_next r p) (list_all (is_next r) ps) h in
    let up = and_parts (list_all (λ (q : Passage). nat_lt p.place q.place) ps) (are_rising ps) g in
    and_from _ _ (behind_first r p ps here.0 here.1 up.0) (behind_each r ps here.1 up.1)

pub waiting-tick : (es : List Event) (d : ℕ) → map entry (in_order (es ++ Tick ∷ []) d) ≡ enter_all (map entry (in_order es d)) (map entry (later es d))
waiting-tick es d =
    ap (map entry) (in_order-tick es d)
    ∙ entry-fold (later es d) (in_order es d) (all_behind_arrived (round es) (length es) (later es d) (queue es d) (next-later es d) (queued-before es d))
    (behind_each (round es) (later es d) (next-later es d) (rising-later es d))

-- the entries after the first
pub entries-drop : (ps : List Passage) → map entry (drop 1 ps) ≡ drop 1 (map entry ps)
entries-drop [] = refl
entries-drop (p ∷ ps) = refl
