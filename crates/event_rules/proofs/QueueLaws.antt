-- what one event more changes of a device's queue
use Rattle.std.proofs.Common.{◌≡◌, ℕ, ◌+◌, ◌<◌, ◌≤◌, Bool, true, false, cond, List, [], ◌∷◌, ◌++◌, length, refl, sym, ap, ◌∙◌, arith, Option, Some, None, append-nil, append_assoc, length-append, add-zero, not, ◌==◌, ◌&&◌, ◌||◌, if◌then◌else◌, nat_le, nat_lt, filter, option_to_list, fold, slice_get, option_map}
use Rattle.std.proofs.lemmas.List.Elements.{filter-append}
use Rattle.event_rules.specs.Event.{is_tick, is_send_of, Event, Submit, Send, Requeue, Tick}
use Rattle.event_rules.specs.Counts.{round, submission, Submission}
use Rattle.std.specs.List.{list_all, filter_map, cons_option}
use Rattle.std.proofs.lemmas.Bool.{and_parts, and_from}
use Rattle.std.proofs.lemmas.Bool.Decides.{nat_tests}
use Rattle.cam_types.specs.Lists.{prefixed, prefixed_after}
use Rattle.event_rules.specs.Stays.{stays_begun, stay_begun, is_unsent, waiting, is_at, queue, queue_key, first, Passage}
use Rattle.event_rules.specs.Sorted.{insert_by, sorted_by}
use Rattle.event_rules.proofs.PushLaws.{round-push, waiting-push, place-stay_begun}
use Rattle.event_rules.proofs.ListFacts.{filter-all}
use Rattle.event_rules.proofs.TurnLaws.{round-more}
use Rattle.event_rules.proofs.SortedLemmas.{filter-sorted_by, first-sorted_by, are_apart, all_apart, all-filter, apart-filter, is_parted, sorted-parts}

-- a device's queue, the first in front
abbrev pub in_order : List Event → ℕ → List Passage
in_order es d = sorted_by queue_key (queue es d)

pub first-in_order : (es : List Event) (d : ℕ) → slice_get (in_order es d) 0 ≡ first es d
unfolding first
first-in_order es d = first-sorted_by queue_key (queue es d)

-- two filters in either order
comm_cases : {X : Type 0} (p q : X → Bool) (x : X) (xs : List X) (s t : Bool) → p x ≡ s → q x ≡ t → filter p (filter q xs) ≡ filter q (filter p xs) →
    filter p (cond t (x ∷ filter q xs) (filter q xs)) ≡ filter q (cond s (x ∷ filter p xs) (filter p xs))
comm_cases p q x xs true true e e' ih = rw (e, e') (ap (λ ys. x ∷ ys) ih)
comm_cases p q x xs true false e e' ih = rw e' ih
comm_cases p q x xs false true e e' ih = rw e ih
comm_cases p q x xs false false e e' ih = ih

filter-comm : {X : Type 0} (p q : X → Bool) (xs : List X) → filter p (filter q xs) ≡ filter q (filter p xs)
filter-comm p q [] = refl
filter-comm p q (x ∷ xs) = comm_cases p q x xs (p x) (q x) refl refl (filter-comm p q xs)

-- the stays that the device's queue will have in the next round
abbrev pub is_later : ℕ → ℕ → Passage → Bool
is_later d round p = (p.device == d) && nat_lt round p.arrival

abbrev pub later : List Event → ℕ → List Passage
later es d = filter (is_later d (round es)) (waiting es)

-- of the stays that pass a test those remain that the event doesn't send, and it may begin one
module _ (test : Passage → Bool) where
  waiting-parts : (es : List Event) (e : Event) → filter test (waiting (es ++ e ∷ [])) ≡ filter (λ (p : Passage). not (is_send_of p.ccb e)) (filter test (waiting es)) ++ filter test (option_to_list (stay_begun (es, e)))
  waiting-parts es e =
      ap (filter test) (waiting-push es e)
      ∙ filter-append test (filter (λ (p : Passage). not (is_send_of p.ccb e)) (waiting es)) (option_to_list (stay_begun (es, e)))
      ∙ ap (λ ps. ps ++ filter test (option_to_list (stay_begun (es, e)))) (filter-comm test (λ (p : Passage). not (is_send_of p.ccb e)) (waiting es))

-- where no round opens, the queue and what waits for the next round change so
pub round-still : (es : List Event) (e : Event) → is_tick e ≡ false → round (es ++ e ∷ []) ≡ round es
round-still es e still = round-push es e ∙ ap (λ b. round es + cond b 1 0) still ∙ add-zero (round es)

pub queue-push : (es : List Event) (e : Event) (d : ℕ) → is_tick e ≡ false →
    queue (es ++ e ∷ []) d ≡ filter (λ (p : Passage). not (is_send_of p.ccb e)) (queue es d) ++ filter (is_at d (round es)) (option_to_list (stay_begun (es, e)))
unfolding queue
queue-push es e d still = ap (λ r. filter (is_at d r) (waiting (es ++ e ∷ []))) (round-still es e still) ∙ waiting-parts (is_at d (round es)) es e

pub later-push : (es : List Event) (e : Event) (d : ℕ) → is_tick e ≡ false →
    later (es ++ e ∷ []) d ≡ filter (λ (p : Passage). not (is_send_of p.ccb e)) (later es d) ++ filter (is_later d (round es)) (option_to_list (stay_begun (es, e)))
later-push es e d still = ap (λ r. filter (is_later d r) (waiting (es ++ e ∷ []))) (round-still es e still) ∙ waiting-parts (is_later d (round es)) es e

-- where a round opens, the queue has what waited for it too
pub queue-tick : (es : List Event) (d : ℕ) → queue (es ++ Tick ∷ []) d ≡ filter (is_at d (round es + 1)) (waiting es)
unfolding queue
queue-tick es d =
    ap (λ r. filter (is_at d r) (waiting (es ++ Tick ∷ []))) (round-push es Tick)
    ∙ ap (filter (is_at d (round es + 1))) (waiting-push es Tick ∙ append-nil _ ∙ filter-all (λ (p : Passage). not (is_send_of p.ccb Tick)) (λ p. refl) (waiting es))

-- in order
pub in_order-send : (es : List Event) (lane ccb d : ℕ) → in_order (es ++ Send lane ccb ∷ []) d ≡ filter (λ (p : Passage). not (ccb == p.ccb)) (in_order es d)
in_order-send es lane ccb d =
    ap (sorted_by queue_key) (queue-push es (Send lane ccb) d refl ∙ append-nil _) ∙ sym (filter-sorted_by queue_key (λ (p : Passage). not (ccb == p.ccb)) (queue es d))

-- no stay arrives later than in the next round
arrival_cases : (o : Option Submission) (make : Submission → Passage) (n : ℕ) → ((x : Submission) → (make x).arrival ≡ n) → (p : Passage) → option_map make o ≡ Some p → p.arrival ≡ n
arrival_cases None make n h p e = absurd (cc)
arrival_cases (Some x) make n h p e = let same : make x ≡ p = cc in ap (λ (q : Passage). q.arrival) (sym same) ∙ h x

submitted-arrival : (q p : Passage) (n : ℕ) → q.arrival ≡ n → Some q ≡ Some p → p.arrival ≡ n
submitted-arrival q p n h e = let same : q ≡ p = cc in ap (λ (x : Passage). x.arrival) (sym same) ∙ h

arrival-stay_begun : (m : List Event × Event) (p : Passage) → stay_begun m ≡ Some p → p.arrival ≤ round m.0 + 1
arrival-stay_begun (before, Submit driver device priority retries flags) p e = let at : p.arrival ≡ round before = submitted-arrival _ p (round before) refl e in omega arith
arrival-stay_begun (before, Requeue ccb) p e = let at : p.arrival ≡ round before + 1 = arrival_cases (submission before ccb) _ (round before + 1) (λ x. refl) p e in omega arith
arrival-stay_begun (before, _) p e = absurd (cc)

-- what holds of each stay that begins holds of all
module _ (test : Passage → Bool) where
  pub kept_stay : (o : Option Passage) (ps : List Passage) → ((p : Passage) → o ≡ Some p → test p ≡ true) → list_all test ps ≡ true → list_all test (cons_option o ps) ≡ true
  kept_stay None ps h k = k
  kept_stay (Some p) ps h k = and_from _ _ (h p refl) k

  pub all_begun : (good : List Event → Type 0) → ((before : List Event) (e : Event) → good before → good (before ++ e ∷ [])) →
      ((before : List Event) (e : Event) (p : Passage) → good before → stay_begun (before, e) ≡ Some p → test p ≡ true) →
      (before xs : List Event) → good before → list_all test (filter_map stay_begun (prefixed_after before xs)) ≡ true
  all_begun good more holds before [] g = refl
  all_begun good more holds before (x ∷ xs) g =
      kept_stay (stay_begun (before, x)) (filter_map stay_begun (prefixed_after (before ++ x ∷ []) xs)) (λ p e. holds before x p g e) (all_begun good more holds (before ++ x ∷ []) xs (more before x g))

-- the stays begin one after another
pub le_test : (a b : ℕ) → a ≤ b → nat_le a b ≡ true
le_test a b h = grind (arith, nat_tests)

pub test_le : (a b : ℕ) → nat_le a b ≡ true → a ≤ b
test_le a b h = grind (arith, nat_tests)

pub begun_from : (n : ℕ) (before xs : List Event) → n ≤ length before → list_all (λ (p : Passage). nat_le n p.place) (filter_map stay_begun (prefixed_after before xs)) ≡ true
begun_from n before xs le =
    all_begun (λ (p : Passage). nat_le n p.place) (λ es. n ≤ length es) (λ es e h. omega (arith, h, length-append es (e ∷ [])))
    (λ es e p h is. let at : p.place ≡ length es = place-stay_begun (es, e) p is in le_test n p.place (omega (arith, h))) before xs le

apart_numbers : (a a' b b' c c' d d' : ℕ) → d < d' →
    ((nat_lt a a' || ((a == a') && (nat_lt b b' || ((b == b') && (nat_lt c c' || ((c == c') && (nat_lt d d' || ((d == d') && false))))))))
    || (nat_lt a' a || ((a' == a) && (nat_lt b' b || ((b' == b) && (nat_lt c' c || ((c' == c) && (nat_lt d' d || ((d' == d) && false))))))))) ≡ true
apart_numbers a a' b b' c c' d d' lt = grind (arith, nat_tests)

apart_places : (p q : Passage) → p.place < q.place → are_apart queue_key p q ≡ true
apart_places p q lt = apart_numbers p.priority q.priority p.arrival q.arrival (if p.requeued then 0 else 1) (if q.requeued then 0 else 1) p.place q.place lt

apart_behind : (p : Passage) (ps : List Passage) → list_all (λ (q : Passage). nat_le (p.place + 1) q.place) ps ≡ true → list_all (are_apart queue_key p) ps ≡ true
apart_behind p [] h = refl
apart_behind p (q ∷ qs) h =
    let parts = and_parts (nat_le (p.place + 1) q.place) (list_all (λ (x : Passage). nat_le (p.place + 1) x.place) qs) h in
    and_from _ _ (apart_places p q (omega (arith, test_le (p.place + 1) q.place parts.0))) (apart_behind p qs parts.1)

apart_cases : (n : ℕ) (o : Option Passage) (ps : List Passage) → ((p : Passage) → o ≡ Some p → p.place ≡ n) →
    list_all (λ (q : Passage). nat_le (n + 1) q.place) ps ≡ true → all_apart queue_key ps ≡ true → all_apart queue_key (cons_option o ps) ≡ true
apart_cases n None ps at h k = k
apart_cases n (Some p) ps at h k =
    and_from _ _ (apart_behind p ps (rw (at p refl) h)) k

apart_after : (before xs : List Event) → all_apart queue_key (filter_map stay_begun (prefixed_after before xs)) ≡ true
apart_after before [] = refl
apart_after before (x ∷ xs) =
    apart_cases (length before) (stay_begun (before, x)) (filter_map stay_begun (prefixed_after (before ++ x ∷ []) xs)) (λ p e. place-stay_begun (before, x) p e)
    (begun_from (length before + 1) (before ++ x ∷ []) xs (omega (arith, length-append before (x ∷ [])))) (apart_after (before ++ x ∷ []) xs)

-- the keys of all stays differ
pub all_apart-waiting : (es : List Event) → all_apart queue_key (waiting es) ≡ true
unfolding waiting stays_begun
all_apart-waiting es = apart-filter queue_key (is_unsent es) (filter_map stay_begun (prefixed es)) (apart_after [] es)

-- each stay has arrived, or arrives in the next round
arrived_by : (es xs : List Event) (n : ℕ) → round (es ++ xs) ≤ n → list_all (λ (p : Passage). nat_le p.arrival (n + 1)) (filter_map stay_begun (prefixed_after es xs)) ≡ true
arrived_by es [] n le = refl
arrived_by es (x ∷ xs) n le =
    kept_stay (λ (p : Passage). nat_le p.arrival (n + 1)) (stay_begun (es, x)) (filter_map stay_begun (prefixed_after (es ++ x ∷ []) xs))
    (λ p e. le_test p.arrival (n + 1) (omega (arith, arrival-stay_begun (es, x) p e, round-more es (x ∷ xs), le)))
    (arrived_by (es ++ x ∷ []) xs n (rw (append_assoc es (x ∷ []) xs) le))

pub arrived-waiting : (es : List Event) → list_all (λ (p : Passage). nat_le p.arrival (round es + 1)) (waiting es) ≡ true
unfolding waiting stays_begun
arrived-waiting es = all-filter queue_key (λ (p : Passage). nat_le p.arrival (round es + 1)) (is_unsent es) (filter_map stay_begun (prefixed es)) (arrived_by [] es (round es) (omega arith))

-- in the next round those wait that are queued, and those that arrive then
parted_stay : (a : Bool) (arrival r : ℕ) → arrival ≤ r + 1 →
    (((a && nat_le arrival (r + 1)) && (((a && nat_le arrival r) && not (a && nat_lt r arrival)) || (not (a && nat_le arrival r) && (a && nat_lt r arrival))))
    || (not (a && nat_le arrival (r + 1)) && (not (a && nat_le arrival r) && not (a && nat_lt r arrival)))) ≡ true
parted_stay true arrival r le = grind (arith, nat_tests)
parted_stay false arrival r le = refl

parted_all : (d r : ℕ) (ps : List Passage) → list_all (λ (p : Passage). nat_le p.arrival (r + 1)) ps ≡ true →
    list_all (is_parted queue_key (is_at d r) (is_later d r) (is_at d (r + 1))) ps ≡ true
parted_all d r [] h = refl
parted_all d r (p ∷ ps) h =
    let parts = and_parts (nat_le p.arrival (r + 1)) (list_all (λ (q : Passage). nat_le q.arrival (r + 1)) ps) h in
    and_from _ _ (parted_stay (p.device == d) p.arrival r (test_le p.arrival (r + 1) parts.0)) (parted_all d r ps parts.1)

-- where a round opens, what waited for it is inserted into the queue
pub in_order-tick : (es : List Event) (d : ℕ) → in_order (es ++ Tick ∷ []) d ≡ fold (insert_by queue_key) (in_order es d) (later es d)
unfolding queue
in_order-tick es d =
    ap (sorted_by queue_key) (queue-tick es d)
    ∙ sorted-parts queue_key (is_at d (round es)) (is_later d (round es)) (is_at d (round es + 1)) (waiting es)
    (parted_all d (round es) (waiting es) (arrived-waiting es)) (all_apart-waiting es)

-- nothing waits for the round after the next
not_later : (a : Bool) (arrival r : ℕ) → arrival ≤ r → (a && nat_lt r arrival) ≡ false
not_later true arrival r le = grind (arith, nat_tests)
not_later false arrival r le = refl

none_later : (d r : ℕ) (ps : List Passage) → list_all (λ (p : Passage). nat_le p.arrival (r + 1)) ps ≡ true → filter (is_later d (r + 1)) ps ≡ []
none_later d r [] h = refl
none_later d r (p ∷ ps) h =
    let parts = and_parts (nat_le p.arrival (r + 1)) (list_all (λ (q : Passage). nat_le q.arrival (r + 1)) ps) h in
    let here : is_later d (r + 1) p ≡ false = not_later (p.device == d) p.arrival (r + 1) (test_le p.arrival (r + 1) parts.0) in
    rw here (none_later d r ps parts.1)

pub later-tick : (es : List Event) (d : ℕ) → later (es ++ Tick ∷ []) d ≡ []
later-tick es d =
    ap (λ r. filter (is_later d r) (waiting (es ++ Tick ∷ []))) (round-push es Tick)
    ∙ ap (filter (is_later d (round es + 1))) (waiting-push es Tick ∙ append-nil _ ∙ filter-all (λ (p : Passage). not (is_send_of p.ccb Tick)) (λ p. refl) (waiting es))
    ∙ none_later d (round es) (waiting es) (arrived-waiting es)
