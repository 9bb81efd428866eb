-- a stay is inserted into a queue in order where an entry enters
use Rattle.std.proofs.Common.{◌≡◌, ℕ, Bool, true, false, cond, List, [], ◌∷◌, refl, ap, ◌∙◌, arith, not, ◌==◌, ◌&&◌, ◌||◌, nat_lt, nat_le, fold, map}
use Rattle.std.specs.List.{list_all}
use Rattle.std.proofs.lemmas.Bool.{and_parts, and_from}
use Rattle.std.proofs.lemmas.Bool.Decides.{nat_tests}
use Rattle.xpt_core.specs.Words.{is_less, queue_key, earlier_key, insert_by, sorted_by, Passage, enter, enter_all, Waiting}
use Rattle.xpt_core.specs.Device.{entry}

-- the one stay isn't earlier than the other, of one priority
abbrev pub is_behind : Passage → Passage → Bool
is_behind p q = not (is_less (earlier_key p) (earlier_key q))

-- a stay that isn't earlier is less where it is more urgent
less_by_priority : (a b : ℕ) (earlier : Bool) → not earlier ≡ true → (nat_lt a b || ((a == b) && earlier)) ≡ not (nat_le b a)
less_by_priority a b true e = absurd (cc)
less_by_priority a b false e = grind (arith, nat_tests)

insert_cases : (ys : List Passage) (y p : Passage) (b : Bool) (rest : List Waiting) → map entry (insert_by queue_key ys p) ≡ rest →
    map entry (cond (not b) (p ∷ y ∷ ys) (y ∷ insert_by queue_key ys p)) ≡ cond b (entry y ∷ rest) (entry p ∷ map entry (y ∷ ys))
insert_cases ys y p true rest e = ap (λ ws. entry y ∷ ws) e
insert_cases ys y p false rest e = refl

pub entry-insert : (p : Passage) (ys : List Passage) → list_all (is_behind p) ys ≡ true → map entry (insert_by queue_key ys p) ≡ enter (map entry ys) (entry p)
entry-insert p [] h = refl
entry-insert p (y ∷ ys) h =
    let parts = and_parts (is_behind p y) (list_all (is_behind p) ys) h in
    let less : is_less (queue_key p) (queue_key y) ≡ not (nat_le y.priority p.priority) = less_by_priority p.priority y.priority (is_less (earlier_key p) (earlier_key y)) parts.0 in
    ap (λ b. map entry (cond b (p ∷ y ∷ ys) (y ∷ insert_by queue_key ys p))) less
    ∙ insert_cases ys y p (nat_le y.priority p.priority) (enter (map entry ys) (entry p)) (entry-insert p ys parts.1)

-- what holds of all of a list and of one more holds with it inserted
module _ (test : Passage → Bool) where
  all_cases : (y p : Passage) (ys rest : List Passage) (b : Bool) → test p ≡ true → list_all test (y ∷ ys) ≡ true → list_all test rest ≡ true → list_all test (cond b (p ∷ y ∷ ys) (y ∷ rest)) ≡ true
  all_cases y p ys rest true one all more = and_from _ _ one all
  all_cases y p ys rest false one all more = and_from _ _ (and_parts (test y) (list_all test ys) all).0 more

  pub all-insert : (ys : List Passage) (p : Passage) → test p ≡ true → list_all test ys ≡ true → list_all test (insert_by queue_key ys p) ≡ true
  all-insert [] p one all = and_from _ _ one refl
  all-insert (y ∷ ys) p one all =
      all_cases y p ys (insert_by queue_key ys p) (is_less (queue_key p) (queue_key y)) one all (all-insert ys p one (and_parts (test y) (list_all test ys) all).1)

  pub all-fold : (ys ps : List Passage) → list_all test ps ≡ true → list_all test ys ≡ true → list_all test (fold (insert_by queue_key) ys ps) ≡ true
  all-fold ys [] more all = all
  all-fold ys (p ∷ ps) more all =
      let parts = and_parts (test p) (list_all test ps) more in
      all-fold (insert_by queue_key ys p) ps parts.1 (all-insert ys p parts.0 all)

  pub all-sorted : (ps : List Passage) → list_all test ps ≡ true → list_all test (sorted_by queue_key ps) ≡ true
  all-sorted ps all = all-fold [] ps all refl

-- each is after all before it
abbrev pub are_behind : List Passage → Bool
are_behind [] = true
are_behind (p ∷ ps) = list_all (λ q. is_behind q p) ps && are_behind ps

-- each is after all of a list
abbrev pub all_behind : List Passage → List Passage → Bool
all_behind ps ys = list_all (λ p. list_all (is_behind p) ys) ps

behind_more : (p : Passage) (ps ys : List Passage) → all_behind ps ys ≡ true → list_all (λ q. is_behind q p) ps ≡ true → all_behind ps (insert_by queue_key ys p) ≡ true
behind_more p [] ys all one = refl
behind_more p (q ∷ qs) ys all one =
    let here = and_parts (list_all (is_behind q) ys) (all_behind qs ys) all in
    let last = and_parts (is_behind q p) (list_all (λ r. is_behind r p) qs) one in
    and_from _ _ (all-insert (is_behind q) ys p last.0 here.0) (behind_more p qs ys here.1 last.1)

pub entry-fold : (ps ys : List Passage) → all_behind ps ys ≡ true → are_behind ps ≡ true →
    map entry (fold (insert_by queue_key) ys ps) ≡ enter_all (map entry ys) (map entry ps)
entry-fold [] ys all each = refl
entry-fold (p ∷ ps) ys all each =
    let here = and_parts (list_all (is_behind p) ys) (all_behind ps ys) all in
    let next = and_parts (list_all (λ q. is_behind q p) ps) (are_behind ps) each in
    entry-fold ps (insert_by queue_key ys p) (behind_more p ps ys here.1 next.0) next.1
    ∙ ap (λ ws. enter_all ws (map entry ps)) (entry-insert p ys here.0)
