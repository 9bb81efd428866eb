-- stays that are submitted anew, one after another
use Rattle.std.proofs.Common.{◌≡◌, ℕ, ◌+◌, ◌<◌, ◌≤◌, Bool, true, false, List, [], ◌∷◌, ◌++◌, length, map, filter, fold, refl, sym, ap, ◌∙◌, arith, append-nil, append_assoc, Option, Some, None, not, ◌==◌, ◌&&◌, ◌||◌, nat_lt, filter_map, option_map, length-append}
use Rattle.std.specs.List.{list_all, cons_option}
use Rattle.std.proofs.lemmas.Bool.{and_parts, and_from, eqb-true, not-true}
use Rattle.std.proofs.lemmas.Bool.Decides.{nat_tests}
use Rattle.std.proofs.lemmas.List.Folds.{list_all-append}
use Rattle.cam_types.specs.Lists.{is_less}
use Rattle.event_rules.specs.Counts.{commands, round, submission}
use Rattle.event_rules.specs.Event.{is_some_and, is_send_of, submission_of}
use Rattle.event_rules.specs.Laws.{is_stay_of}
use Rattle.event_rules.specs.Sorted.{insert_by, sorted_by}
use Rattle.event_rules.specs.Stays.{waiting, stays_begun, is_unsent, queue_key}
use Rattle.event_rules.proofs.ListFacts.{filter-all}
use Rattle.event_rules.proofs.PushLaws.{waiting-push}
use Rattle.event_rules.proofs.QueueLaws.{round-still}
use Rattle.event_rules.proofs.SortedLemmas.{is_sorted, is_sorted-insert}
use Rattle.event_rules.proofs.StayLemmas.{of_its_ccb-stays_begun}
use Rattle.event_rules.proofs.TestLemmas.{list_all-weaker, list_all-filtered}
use Rattle.event_rules.proofs.TotalLaws.{commands-submit}
use Rattle.xpt_core.proofs.EntryLemmas.{all-sorted}
use Rattle.xpt_carry.specs.Carry.{left_of, submit, submit_of, carried}
use Rattle.event_rules.specs.declared.submission.Submission.{Submission}
use Rattle.event_rules.specs.declared.event.Event.{Event}
use Rattle.event_rules.specs.declared.passage.Passage.{Passage}

-- a stay as it is submitted anew: as the CCB of this number, in this round and at this place
abbrev pub anew : ℕ → ℕ → ℕ → Passage → Passage
anew n r m p = record {
  ccb = n;
  attempt = 0;
  device = p.device;
  priority = p.priority;
  arrival = r;
  requeued = false;
  place = m;
}

-- all of them, from this number and place on
abbrev pub all_anew : ℕ → ℕ → ℕ → List Passage → List Passage
all_anew n r m [] = []
all_anew n r m (p ∷ ps) = anew n r m p ∷ all_anew (n + 1) r (m + 1) ps

-- the stays that submits begin
abbrev stay_at : ℕ → ℕ → ℕ → Submission → Passage
stay_at n r m s = record {
  ccb = n;
  attempt = 0;
  device = s.device;
  priority = s.priority;
  arrival = r;
  requeued = false;
  place = m;
}

abbrev stays_at : ℕ → ℕ → ℕ → List Submission → List Passage
stays_at n r m [] = []
stays_at n r m (s ∷ ss) = stay_at n r m s ∷ stays_at (n + 1) r (m + 1) ss

waits_too : (es : List Event) (s : Submission) → waiting (es ++ submit s ∷ []) ≡ waiting es ++ stay_at (commands es) (round es) (length es) s ∷ []
waits_too es s =
    waiting-push es (submit s)
    ∙ ap (λ ps. ps ++ stay_at (commands es) (round es) (length es) s ∷ []) (filter-all (λ (p : Passage). not (is_send_of p.ccb (submit s))) (λ p. refl) (waiting es))

stays_same : (ws : List Passage) (n n' r r' m m' : ℕ) (ss : List Submission) → n' ≡ n → r' ≡ r → m' ≡ m → ws ++ stays_at n' r' m' ss ≡ ws ++ stays_at n r m ss
stays_same ws n n' r r' m m' ss a b e = rw (a, b, e) refl

pub waiting-submits : (ss : List Submission) (es : List Event) → waiting (es ++ map submit ss) ≡ waiting es ++ stays_at (commands es) (round es) (length es) ss
waiting-submits [] es = ap waiting (append-nil es) ∙ sym (append-nil (waiting es))
waiting-submits (s ∷ ss) es =
    let next = es ++ submit s ∷ [] in
    let n : commands next ≡ commands es + 1 = commands-submit es (submit s) s refl in
    let r : round next ≡ round es = round-still es (submit s) refl in
    let m : length next ≡ length es + 1 = omega (arith, length-append es (submit s ∷ [])) in
    ap waiting (sym (append_assoc es (submit s ∷ []) (map submit ss)))
    ∙ waiting-submits ss next
    ∙ stays_same (waiting next) (commands es + 1) (commands next) (round es) (round next) (length es + 1) (length next) ss n r m
    ∙ ap (λ ws. ws ++ stays_at (commands es + 1) (round es) (length es + 1) ss) (waits_too es s)
    ∙ append_assoc (waiting es) (stay_at (commands es) (round es) (length es) s ∷ []) (stays_at (commands es + 1) (round es) (length es + 1) ss)

pub round-submits : (ss : List Submission) (es : List Event) → round (es ++ map submit ss) ≡ round es
round-submits [] es = ap round (append-nil es)
round-submits (s ∷ ss) es =
    ap round (sym (append_assoc es (submit s ∷ []) (map submit ss))) ∙ round-submits ss (es ++ submit s ∷ []) ∙ round-still es (submit s) refl

-- what is submitted is what is left
abbrev pub lefts : List Event → List Passage → List Submission
lefts es ps = filter_map (λ (p : Passage). left_of es p.ccb) ps

submit_cases : (o : Option Submission) (ss : List Submission) → cons_option (option_map submit o) (map submit ss) ≡ map submit (cons_option o ss)
submit_cases None ss = refl
submit_cases (Some s) ss = refl

pub submits-lefts : (es : List Event) (ps : List Passage) → filter_map (submit_of es) ps ≡ map submit (lefts es ps)
unfolding submit_of
submits-lefts es [] = refl
submits-lefts es (p ∷ ps) =
    ap (λ xs. cons_option (option_map submit (left_of es p.ccb)) xs) (submits-lefts es ps) ∙ submit_cases (left_of es p.ccb) (lefts es ps)

pub submissions-submits : (ss : List Submission) → filter_map submission_of (map submit ss) ≡ ss
submissions-submits [] = refl
submissions-submits (s ∷ ss) = ap (λ xs. s ∷ xs) (submissions-submits ss)

-- something is left of a stay's CCB, at its device and priority
abbrev pub is_own : List Event → Passage → Bool
is_own es p = is_some_and (is_stay_of p) (left_of es p.ccb)

pub record HasLeft (es : List Event) (p : Passage) : Type 0 where
  pub left : Submission
  pub is : left_of es p.ccb ≡ Some left
  pub device : left.device ≡ p.device
  pub priority : left.priority ≡ p.priority

left_cases : (es : List Event) (p : Passage) (o : Option Submission) → left_of es p.ccb ≡ o → is_some_and (is_stay_of p) o ≡ true → HasLeft es p
left_cases es p None is h = absurd (cc)
left_cases es p (Some s) is h =
    let parts = and_parts (s.device == p.device) (s.priority == p.priority) h in
    record { left = s; is = is; device = eqb-true s.device p.device parts.0; priority = eqb-true s.priority p.priority parts.1 }

pub has_left : (es : List Event) (p : Passage) → is_own es p ≡ true → HasLeft es p
has_left es p h = left_cases es p (left_of es p.ccb) refl h

own_cases : (p : Passage) (f : Submission → Submission) → ((s : Submission) → is_stay_of p (f s) ≡ is_stay_of p s) → (o : Option Submission) → is_some_and (is_stay_of p) o ≡ true → is_some_and (is_stay_of p) (option_map f o) ≡ true
own_cases p f same None h = absurd (cc)
own_cases p f same (Some s) h = same s ∙ h

own_left : (es : List Event) (p : Passage) → is_some_and (is_stay_of p) (submission es p.ccb) ≡ true → is_own es p ≡ true
unfolding left_of
own_left es p h = own_cases p _ (λ s. refl) (submission es p.ccb) h

pub all_own : (es : List Event) → list_all (is_own es) (carried es) ≡ true
unfolding carried waiting
all_own es =
    all-sorted (is_own es) (filter (is_unsent es) (stays_begun es))
    (list_all-filtered (is_unsent es) (is_own es) (stays_begun es)
    (list_all-weaker (λ (p : Passage). is_some_and (is_stay_of p) (submission es p.ccb)) (is_own es) (stays_begun es) (own_left es) (of_its_ccb-stays_begun es)))

same_head : (s : Submission) (p : Passage) (n r m : ℕ) (xs ys : List Passage) → s.device ≡ p.device → s.priority ≡ p.priority → xs ≡ ys → stay_at n r m s ∷ xs ≡ anew n r m p ∷ ys
same_head s p n r m xs ys d q e = rw (d, q, e) refl

pub stays-lefts : (es : List Event) (ps : List Passage) (n r m : ℕ) → list_all (is_own es) ps ≡ true → stays_at n r m (lefts es ps) ≡ all_anew n r m ps
stays-lefts es [] n r m h = refl
stays-lefts es (p ∷ ps) n r m h =
    let parts = and_parts (is_own es p) (list_all (is_own es) ps) h in
    let own = has_left es p parts.0 in
    rw (own.is) (same_head own.left p n r m (stays_at (n + 1) r (m + 1) (lefts es ps)) (all_anew (n + 1) r (m + 1) ps) own.device own.priority (stays-lefts es ps (n + 1) r (m + 1) parts.1))

-- and there is one of each
pub some-lefts : (es : List Event) (ps : List Passage) → list_all (is_own es) ps ≡ true → map Some (lefts es ps) ≡ map (λ (p : Passage). left_of es p.ccb) ps
some-lefts es [] h = refl
some-lefts es (p ∷ ps) h =
    let parts = and_parts (is_own es p) (list_all (is_own es) ps) h in
    let own = has_left es p parts.0 in
    rw (own.is) (ap (λ xs. Some own.left ∷ xs) (some-lefts es ps parts.1))

-- in the order of their keys they stay
module _ {X : Type 0} (key : X → List ℕ) where
  insert_last : (ys : List X) (x : X) → list_all (λ y. not (is_less (key x) (key y))) ys ≡ true → insert_by key ys x ≡ ys ++ x ∷ []
  insert_last [] x h = refl
  insert_last (y ∷ ys) x h =
      let parts = and_parts (not (is_less (key x) (key y))) (list_all (λ z. not (is_less (key x) (key z))) ys) h in
      rw (not-true (is_less (key x) (key y)) parts.0) (ap (λ zs. y ∷ zs) (insert_last ys x parts.1))

  last_parts : (ys : List X) (x : X) (xs : List X) → is_sorted key (ys ++ x ∷ xs) ≡ true → list_all (λ y. not (is_less (key x) (key y))) ys ≡ true
  last_parts [] x xs h = refl
  last_parts (y ∷ ys) x xs h =
      let parts = and_parts (list_all (λ z. not (is_less (key z) (key y))) (ys ++ x ∷ xs)) (is_sorted key (ys ++ x ∷ xs)) h in
      let all = sym (list_all-append (λ z. not (is_less (key z) (key y))) ys (x ∷ xs)) ∙ parts.0 in
      let one = (and_parts (list_all (λ z. not (is_less (key z) (key y))) ys) (list_all (λ z. not (is_less (key z) (key y))) (x ∷ xs)) all).1 in
      let here = (and_parts (not (is_less (key x) (key y))) (list_all (λ z. not (is_less (key z) (key y))) xs) one).0 in
      and_from _ _ here (last_parts ys x xs parts.1)

  fold_sorted : (xs ys : List X) → is_sorted key (ys ++ xs) ≡ true → fold (insert_by key) ys xs ≡ ys ++ xs
  fold_sorted [] ys h = sym (append-nil ys)
  fold_sorted (x ∷ xs) ys h =
      let seam : (ys ++ x ∷ []) ++ xs ≡ ys ++ x ∷ xs = append_assoc ys (x ∷ []) xs in
      ap (λ zs. fold (insert_by key) zs xs) (insert_last ys x (last_parts ys x xs h)) ∙ fold_sorted xs (ys ++ x ∷ []) (ap (is_sorted key) seam ∙ h) ∙ seam

  pub sorted_by-sorted : (xs : List X) → is_sorted key xs ≡ true → sorted_by key xs ≡ xs
  sorted_by-sorted xs h = fold_sorted xs [] h

  fold_is_sorted : (xs ys : List X) → is_sorted key ys ≡ true → is_sorted key (fold (insert_by key) ys xs) ≡ true
  fold_is_sorted [] ys h = h
  fold_is_sorted (x ∷ xs) ys h = fold_is_sorted xs (insert_by key ys x) (is_sorted-insert key ys x h)

  pub is_sorted-sorted_by : (xs : List X) → is_sorted key (sorted_by key xs) ≡ true
  is_sorted-sorted_by xs = fold_is_sorted xs [] refl

not_before : (a b : ℕ) (rest : Bool) → not (nat_lt a b || ((a == b) && rest)) ≡ true → b ≤ a
not_before a b true h = grind (arith, nat_tests)
not_before a b false h = grind (arith, nat_tests)

later_numbers : (a b r m m' : ℕ) → b ≤ a → m' < m →
    not (nat_lt a b || ((a == b) && (nat_lt r r || ((r == r) && (nat_lt 1 1 || ((1 == 1) && (nat_lt m m' || ((m == m') && false)))))))) ≡ true
later_numbers a b r m m' le lt = grind (arith, nat_tests)

behind_anew : (p : Passage) (n' r m' : ℕ) (ps : List Passage) (n m : ℕ) → m' < m → list_all (λ (q : Passage). not (is_less (queue_key q) (queue_key p))) ps ≡ true →
    list_all (λ (q : Passage). not (is_less (queue_key q) (queue_key (anew n' r m' p)))) (all_anew n r m ps) ≡ true
behind_anew p n' r m' [] n m lt h = refl
behind_anew p n' r m' (q ∷ qs) n m lt h =
    let parts = and_parts (not (is_less (queue_key q) (queue_key p))) (list_all (λ (x : Passage). not (is_less (queue_key x) (queue_key p))) qs) h in
    and_from _ _ (later_numbers q.priority p.priority r m m' (not_before q.priority p.priority _ parts.0) lt)
    (behind_anew p n' r m' qs (n + 1) (m + 1) (omega arith) parts.1)

pub sorted_anew : (ps : List Passage) (n r m : ℕ) → is_sorted queue_key ps ≡ true → is_sorted queue_key (all_anew n r m ps) ≡ true
sorted_anew [] n r m h = refl
sorted_anew (p ∷ ps) n r m h =
    let parts = and_parts (list_all (λ (q : Passage). not (is_less (queue_key q) (queue_key p))) ps) (is_sorted queue_key ps) h in
    and_from _ _ (behind_anew p n r m ps (n + 1) (m + 1) (omega arith) parts.0) (sorted_anew ps (n + 1) r (m + 1) parts.1)
