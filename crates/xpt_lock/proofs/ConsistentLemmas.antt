-- receipts that are taken one by one, seat by seat
use Rattle.std.proofs.Common.{◌≡◌, ◌≢◌, ◌↔◌, ℕ, zero, suc, ◌+◌, ◌<◌, ◌≤◌, Bool, true, false, cond, max, List, [], ◌∷◌, ◌++◌, length, take, set, map, get_or, Some, None, refl, sym, ap, subst, ◌∙◌, arith, append_assoc, append-nil, replicate, ◌==◌, nat_lt, All, MatchBool, count_by, sum_by, slice_get}
use Rattle.std.specs.List.{list_all, range_with_len}
use Rattle.std.proofs.lemmas.Bool.{and_parts, and_from, ltb-true, ltb-false, lt-ltb, eq-eqb, ne_eqb, eqb-true, eqb-false}
use Rattle.std.proofs.lemmas.Grind.{flat_map-append}
use Rattle.std.proofs.lemmas.List.Elements.{All-append, All-head, All-tail, All-cons, All-nil, All-map}
use Rattle.std.proofs.lemmas.List.Folds.{list_all-append}
use Rattle.std.proofs.lemmas.List.{length-map, take_more, take_all}
use Rattle.std.proofs.lemmas.List.Concat.{length-flat_map}
use Rattle.std.proofs.lemmas.List.FromFn.{length-range_with_len}
use Rattle.std.proofs.lemmas.List.Sums.{sum_by-cons}
use Rattle.std.proofs.lemmas.Option.{slice_get_past, slice_get_within, slice_get_read, get_or_from_slice_get}
use Rattle.xpt_core.proofs.ListFacts.{length-by_number}
use Rattle.event_rules.proofs.ListFacts.{count_by-push}
use Rattle.event_rules.proofs.StateLaws.{map-range_but, slice_get-range}
use Rattle.xpt_lock.specs.Gathers.{IsMisfit, IsUnnamed}
use Rattle.xpt_lock.specs.Receipts.{all_receipts, naming, is_rising, marks, AreConsistent, AreInterleaved, Receipt}
use Rattle.xpt_lock.specs.Seats.{Held}

-- what holds of a list holds of its parts
all_front : {X : Type 0} (P : X → Type 0) (xs ys : List X) → All P (xs ++ ys) → All P xs
all_front P [] ys h = All-nil P
all_front P (x ∷ xs) ys h = All-cons P x xs (All-head P x (xs ++ ys) h) (all_front P xs ys (All-tail P x (xs ++ ys) h))

all_back : {X : Type 0} (P : X → Type 0) (xs ys : List X) → All P (xs ++ ys) → All P ys
all_back P [] ys h = h
all_back P (x ∷ xs) ys h = all_back P xs ys (All-tail P x (xs ++ ys) h)

-- the least place that lies after those of the receipts
abbrev pub next_place : List Receipt → ℕ
next_place [] = 0
next_place (r ∷ rs) = max (r.at + 1) (next_place rs)

pub next_place-push : (rs : List Receipt) (r : Receipt) → next_place rs ≤ r.at → next_place (rs ++ r ∷ []) ≡ r.at + 1
next_place-push [] r le = omega arith
next_place-push (x ∷ xs) r le = omega (arith, next_place-push xs r (omega arith))

rising_more : (rs : List Receipt) (r : Receipt) → is_rising rs ≡ true → next_place rs ≤ r.at → is_rising (rs ++ r ∷ []) ≡ true
rising_more [] r rise le = refl
rising_more (x ∷ xs) r rise le =
    let later : Receipt → Bool = λ l. nat_lt x.at l.at in
    let parts = and_parts (list_all later xs) (is_rising xs) rise in
    let here : list_all later (xs ++ r ∷ []) ≡ true = list_all-append later xs (r ∷ []) ∙ and_from _ _ parts.0 (and_from _ _ (lt-ltb x.at r.at (omega arith)) refl) in
    and_from _ _ here (rising_more xs r parts.1 (omega arith))

rising_late : (rs : List Receipt) (r : Receipt) → is_rising (rs ++ r ∷ []) ≡ true → next_place rs ≤ r.at
rising_late [] r rise = omega arith
rising_late (x ∷ xs) r rise =
    let later : Receipt → Bool = λ l. nat_lt x.at l.at in
    let parts = and_parts (list_all later (xs ++ r ∷ [])) (is_rising (xs ++ r ∷ [])) rise in
    let both = and_parts (list_all later xs) (list_all later (r ∷ [])) (sym (list_all-append later xs (r ∷ [])) ∙ parts.0) in
    let less = ltb-true x.at r.at (and_parts (nat_lt x.at r.at) true both.1).0 in
    omega (arith, rising_late xs r parts.1, less)

-- how many name a place, with one receipt more
naming_more : (rs : List Receipt) (r : Receipt) (k : ℕ) → naming k (rs ++ r ∷ []) ≡ naming k rs + cond (r.at == k) 1 0
naming_more rs r k = count_by-push (λ (x : Receipt). x.at == k) rs r

naming_at : (rs : List Receipt) (r : Receipt) → naming r.at (rs ++ r ∷ []) ≡ naming r.at rs + 1
naming_at rs r = naming_more rs r r.at ∙ ap (λ b. naming r.at rs + cond {A = ℕ} b 1 0) (eq-eqb r.at r.at refl)

naming_but : (rs : List Receipt) (r : Receipt) (k : ℕ) → k ≢ r.at → naming k (rs ++ r ∷ []) ≡ naming k rs
naming_but rs r k ne = naming_more rs r k ∙ ap (λ b. naming k rs + cond {A = ℕ} b 1 0) (ne_eqb r.at k (λ e. ne (sym e))) ∙ omega arith

once_more : (rs : List Receipt) (r : Receipt) → ((k : ℕ) → naming k rs ≤ 1) → naming r.at rs ≡ 0 → (k : ℕ) → naming k (rs ++ r ∷ []) ≤ 1
once_more rs r once free k = by (k == r.at) refl
  where
    by : (b : Bool) → (k == r.at) ≡ b → naming k (rs ++ r ∷ []) ≤ 1
    by true is = let e : k ≡ r.at = eqb-true k r.at is in rw e (omega (arith, naming_at rs r, free))
    by false is = omega (arith, naming_but rs r k (eqb-false k r.at is), once k)

-- the marks, with one receipt more
pub marks_more : (n : ℕ) (rs : List Receipt) (r : Receipt) → marks n (rs ++ r ∷ []) ≡ set (marks n rs) r.at true
marks_more n rs r =
    let there : 0 + r.at ≡ r.at = omega arith in
    let some : naming (0 + r.at) (rs ++ r ∷ []) ≡ naming r.at rs + 1 = ap (λ k. naming k (rs ++ r ∷ [])) there ∙ naming_at rs r in
    map-range_but (λ k. nat_lt 0 (naming k rs)) (λ k. nat_lt 0 (naming k (rs ++ r ∷ []))) 0 n r.at (λ k ne. ap (nat_lt 0) (naming_but rs r k (λ e. ne (omega (arith, e)))))
    ∙ ap (set (marks n rs) r.at) (lt-ltb 0 _ (omega (arith, some)))

-- what consistent seats are known by
abbrev Rises : Held → Type 0
Rises h = is_rising h.receipts ≡ true

abbrev Stands : List Receipt → Receipt → Type 0
Stands due r = slice_get due r.at ≡ Some r

-- The receipts of the seats before and some of one more are consistent, with their marks and the next place of that seat.
pub record IsTaken (due : List Receipt) (before : List Held) (mine : List Receipt) (named : List Bool) (from : ℕ) : Type 0 where
  pub stand : All (λ (r : Receipt). slice_get due r.at ≡ Some r) (all_receipts before ++ mine)
  pub others : All (λ (h : Held). is_rising h.receipts ≡ true) before
  pub rise : is_rising mine ≡ true
  pub once : (k : ℕ) → naming k (all_receipts before ++ mine) ≤ 1
  pub marked : named ≡ marks (length due) (all_receipts before ++ mine)
  pub behind : from ≡ next_place mine

pub all_one : (before : List Held) (h : Held) → all_receipts (before ++ h ∷ []) ≡ all_receipts before ++ h.receipts
all_one before h = flat_map-append (λ (x : Held). x.receipts) before (h ∷ []) ∙ ap (λ rs. all_receipts before ++ rs) (append-nil h.receipts)

pub taken_consistent : (due : List Receipt) (before : List Held) (h : Held) (named : List Bool) (from : ℕ) → IsTaken due before h.receipts named from → AreConsistent due (before ++ h ∷ [])
taken_consistent due before h named from t = record {
  stand = rw all_one t.stand;
  rise = All-append Rises before (h ∷ []) t.others (All-cons Rises h [] t.rise (All-nil Rises));
  once = λ k. rw all_one (t.once k);
}

pub taken_none : (due : List Receipt) (before : List Held) (named : List Bool) → AreConsistent due before → named ≡ marks (length due) (all_receipts before) → IsTaken due before [] named 0
taken_none due before named fit marked = record {
  stand = rw append-nil fit.stand;
  others = fit.rise;
  rise = refl;
  once = λ k. rw append-nil (fit.once k);
  marked = rw append-nil marked;
  behind = refl;
}

-- one receipt more, which stands, after the seat's others, at a place without a mark
pub taken_more : (due : List Receipt) (before : List Held) (mine : List Receipt) (named : List Bool) (from : ℕ) (r : Receipt) → IsTaken due before mine named from →
    slice_get due r.at ≡ Some r → from ≤ r.at → naming r.at (all_receipts before ++ mine) ≡ 0 → IsTaken due before (mine ++ r ∷ []) (set named r.at true) (r.at + 1)
taken_more due before mine named from r t stands later free =
    let le : next_place mine ≤ r.at = omega (arith, t.behind, later) in
    let more : all_receipts before ++ (mine ++ r ∷ []) ≡ (all_receipts before ++ mine) ++ r ∷ [] = sym (append_assoc (all_receipts before) mine (r ∷ [])) in
    record {
      stand = rw more (All-append (Stands due) (all_receipts before ++ mine) (r ∷ []) t.stand (All-cons (Stands due) r [] stands (All-nil (Stands due))));
      others = t.others;
      rise = rising_more mine r t.rise le;
      once = λ k. rw more (once_more (all_receipts before ++ mine) r t.once free k);
      marked = ap (λ bs. set bs r.at true) t.marked ∙ sym (marks_more (length due) (all_receipts before ++ mine) r) ∙ ap (marks (length due)) (sym more);
      behind = sym (next_place-push mine r le);
    }

-- the three cases in which a receipt ends it
pub ends_unless_it_stands : (due : List Receipt) (before : List Held) (h : Held) (mine : List Receipt) (r : Receipt) → h.receipts ≡ mine ++ r ∷ [] → slice_get due r.at ≢ Some r → AreConsistent due (before ++ h ∷ []) → ⊥
ends_unless_it_stands due before h mine r is not fit =
    let stand = rw (all_one, is) at fit.stand in
    not (All-head (Stands due) r [] (all_back (Stands due) mine (r ∷ []) (all_back (Stands due) (all_receipts before) (mine ++ r ∷ []) stand)))

pub ends_unless_it_rises : (due : List Receipt) (before : List Held) (h : Held) (mine : List Receipt) (r : Receipt) → h.receipts ≡ mine ++ r ∷ [] → r.at < next_place mine → AreConsistent due (before ++ h ∷ []) → ⊥
ends_unless_it_rises due before h mine r is less fit =
    let rise : is_rising h.receipts ≡ true = All-head Rises h [] (all_back Rises before (h ∷ []) fit.rise) in
    absurd (omega (arith, less, rising_late mine r (ap is_rising (sym is) ∙ rise)))

pub ends_unless_it_is_free : (due : List Receipt) (before : List Held) (h : Held) (mine : List Receipt) (r : Receipt) → h.receipts ≡ mine ++ r ∷ [] → 1 ≤ naming r.at (all_receipts before ++ mine) → AreConsistent due (before ++ h ∷ []) → ⊥
ends_unless_it_is_free due before h mine r is some fit =
    let all : all_receipts (before ++ h ∷ []) ≡ (all_receipts before ++ mine) ++ r ∷ [] = all_one before h ∙ ap (λ rs. all_receipts before ++ rs) is ∙ sym (append_assoc (all_receipts before) mine (r ∷ [])) in
    let most : naming r.at ((all_receipts before ++ mine) ++ r ∷ []) ≤ 1 = rw (← all) (fit.once r.at) in
    absurd (omega (arith, most, naming_at (all_receipts before ++ mine) r, some))

-- what a mark says
pub marked_at : (n : ℕ) (rs : List Receipt) (k : ℕ) → k < n → slice_get (marks n rs) k ≡ Some (nat_lt 0 (naming k rs))
marked_at n rs k lt =
    let here : 0 + k ≡ k = omega arith in
    slice_get-range (λ j. nat_lt 0 (naming j rs)) 0 n k lt ∙ ap (λ j. Some (nat_lt 0 (naming j rs))) here

-- a receipt against that of its place, or where there is none
pub stands_if_same : (due : List Receipt) (r other : Receipt) (b : Bool) → slice_get due r.at ≡ Some other → ((b ≡ true) ↔ (other ≡ r)) → MatchBool b (slice_get due r.at ≡ Some r) (slice_get due r.at ≢ Some r)
stands_if_same due r other true found same = found ∙ ap Some (same.0 refl)
stands_if_same due r other false found same = λ is. absurd (no (same.1 (some_injective (sym found ∙ is))))
  where
    some_injective : {x y : Receipt} → Some x ≡ Some y → x ≡ y
    some_injective e = cc

    no : false ≡ true → ⊥
    no e = cc

pub stands_nowhere : (due : List Receipt) (r : Receipt) → length due ≤ r.at → slice_get due r.at ≢ Some r
stands_nowhere due r le is = no (sym (slice_get_past due r.at le) ∙ is)
  where
    no : {x : Receipt} → None ≡ Some x → ⊥
    no e = cc

-- a seat's receipts up to a place
abbrev pub front : Held → ℕ → Held
front h j = record h { receipts = take j h.receipts }

-- a receipt that ends it is the first that doesn't fit
pub misfit : (due : List Receipt) (seats : List Held) (i j : ℕ) (h : Held) (r : Receipt) (named : List Bool) (from : ℕ) → IsTaken due (take i seats) (take j h.receipts) named from →
    slice_get seats i ≡ Some h → slice_get h.receipts j ≡ Some r → (AreConsistent due (take i seats ++ front h (j + 1) ∷ []) → ⊥) → IsMisfit due seats r
misfit due seats i j h r named from t there its ends = record {
  i = i;
  j = j;
  seat = h;
  there = there;
  its = its;
  fits = taken_consistent due (take i seats) (front h j) named from t;
  ends = ends;
}

-- the front with one receipt more
pub one_more : (rs : List Receipt) (j : ℕ) (r : Receipt) → slice_get rs j ≡ Some r → take (j + 1) rs ≡ take j rs ++ r ∷ []
one_more rs j r at = take_more rs j r (slice_get_within rs j r at) ∙ ap (λ (x : Receipt). take j rs ++ x ∷ []) (get_or_from_slice_get rs j r r at)

-- the seats before and a whole one more
pub one_seat_more : (seats : List Held) (i : ℕ) (h : Held) → slice_get seats i ≡ Some h → take (i + 1) seats ≡ take i seats ++ h ∷ []
one_seat_more seats i h at = take_more seats i h (slice_get_within seats i h at) ∙ ap (λ (x : Held). take i seats ++ x ∷ []) (get_or_from_slice_get seats i h h at)

pub taken_seat : (due : List Receipt) (seats : List Held) (i j : ℕ) (h : Held) (named : List Bool) (from : ℕ) → IsTaken due (take i seats) (take j h.receipts) named from → slice_get seats i ≡ Some h → length h.receipts ≤ j →
    AreConsistent due (take (i + 1) seats) × (named ≡ marks (length due) (all_receipts (take (i + 1) seats)))
taken_seat due seats i j h named from t there end =
    let whole : take j h.receipts ≡ h.receipts = take_all j h.receipts end in
    let taken : IsTaken due (take i seats) h.receipts named from = subst (λ rs. IsTaken due (take i seats) rs named from) whole t in
    let more = one_seat_more seats i h there in (
      rw more (taken_consistent due (take i seats) h named from taken),
      taken.marked ∙ ap (marks (length due)) (sym (all_one (take i seats) h) ∙ ap all_receipts (sym more)),
    )

-- a place is free exactly where its mark is false
pub free_at : (n : ℕ) (rs : List Receipt) (named : List Bool) (k : ℕ) → named ≡ marks n rs → k < n → get_or named k false ≡ false → naming k rs ≡ 0
free_at n rs named k is lt mark =
    let here : get_or (marks n rs) k false ≡ nat_lt 0 (naming k rs) = get_or_from_slice_get (marks n rs) k _ false (marked_at n rs k lt) in
    let none : nat_lt 0 (naming k rs) ≡ false = sym here ∙ ap (λ bs. get_or bs k false) (sym is) ∙ mark in
    omega (arith, ltb-false 0 (naming k rs) none)

pub named_at : (n : ℕ) (rs : List Receipt) (named : List Bool) (k : ℕ) → named ≡ marks n rs → k < n → get_or named k false ≡ true → 1 ≤ naming k rs
named_at n rs named k is lt mark =
    let here : get_or (marks n rs) k false ≡ nat_lt 0 (naming k rs) = get_or_from_slice_get (marks n rs) k _ false (marked_at n rs k lt) in
    let some : nat_lt 0 (naming k rs) ≡ true = sym here ∙ ap (λ bs. get_or bs k false) (sym is) ∙ mark in
    omega (arith, ltb-true 0 (naming k rs) some)

-- there are as many marks as places
pub length_marks : (n : ℕ) (rs : List Receipt) → length (marks n rs) ≡ n
length_marks n rs = length-map (range_with_len 0 n) (λ k. nat_lt 0 (naming k rs)) ∙ length-range_with_len 0 n

-- all places are marked, so each is named once, and there are as many receipts as places
count_map : (rs : List Receipt) (k : ℕ) → count_by (λ (x : ℕ). x == k) (map (λ (r : Receipt). r.at) rs) ≡ naming k rs
count_map [] k = refl
count_map (r ∷ rs) k =
    omega (
      arith,
      sum_by-cons (λ (x : ℕ). cond {A = ℕ} (x == k) 1 0) r.at (map (λ (x : Receipt). x.at) rs),
      sum_by-cons (λ (x : Receipt). cond {A = ℕ} (x.at == k) 1 0) r rs,
      count_map rs k,
    )

ones : (f : ℕ → ℕ) (a n : ℕ) → ((k : ℕ) → a ≤ k → k < a + n → f k ≡ 1) → sum_by f (range_with_len a n) ≡ n
ones f a zero h = refl
ones f a (suc n) h =
    let here : f a ≡ 1 = h a (omega arith) (omega arith) in
    let rest : sum_by f (range_with_len (a + 1) n) ≡ n = ones f (a + 1) n (λ k le lt. h k (omega arith) (omega arith)) in
    omega (arith, sum_by-cons f a (range_with_len (a + 1) n), here, rest)

places : (due rs : List Receipt) → All (Stands due) rs → All (λ (r : Receipt). r.at < length due) rs
places due [] h = All-nil (λ (r : Receipt). r.at < length due)
places due (r ∷ rs) h =
    All-cons (λ (r : Receipt). r.at < length due) r rs (slice_get_within due r.at r (All-head (Stands due) r rs h)) (places due rs (All-tail (Stands due) r rs h))

pub as_many : (due : List Receipt) (rs : List Receipt) → All (λ (r : Receipt). slice_get due r.at ≡ Some r) rs → ((k : ℕ) → k < length due → naming k rs ≡ 1) → length due ≡ length rs
as_many due rs stand each =
    let at : Receipt → ℕ = λ (r : Receipt). r.at in
    let n = length due in
    let most = length-by_number n (map at rs) (All-map (λ (k : ℕ). k < n) at rs (places due rs stand)) in
    let all = ones (λ k. count_by (λ (x : ℕ). x == k) (map at rs)) 0 n (λ k le lt. count_map rs k ∙ each k (omega arith)) in
    omega (arith, most, all, length-map rs at)

pub interleaved : (due : List Receipt) (seats : List Held) (named : List Bool) → AreConsistent due seats → named ≡ marks (length due) (all_receipts seats) → ((k : ℕ) → k < length named → slice_get named k ≡ Some true) → AreInterleaved due seats
interleaved due seats named fit is all =
    let n : length named ≡ length due = ap length is ∙ length_marks (length due) (all_receipts seats) in
    let each : (k : ℕ) → k < length due → naming k (all_receipts seats) ≡ 1 =
    λ k lt. let once = fit.once k in omega (arith, once, named_at (length due) (all_receipts seats) named k is lt (get_or_from_slice_get named k true false (all k (omega arith)))) in
    record {
      consistent = fit;
      all_named = each;
      counted = as_many due (all_receipts seats) fit.stand each ∙ length-flat_map (λ (h : Held). h.receipts) seats;
    }

pub unnamed : (due : List Receipt) (seats : List Held) (named : List Bool) (place : ℕ) → AreConsistent due seats → named ≡ marks (length due) (all_receipts seats) → slice_get named place ≡ Some false →
    ((j : ℕ) → j < place → slice_get named j ≡ Some true) → IsUnnamed due seats place
unnamed due seats named place fit is here before =
    let n : length named ≡ length due = ap length is ∙ length_marks (length due) (all_receipts seats) in
    let lt : place < length due = omega (arith, n, slice_get_within named place false here) in
    record {
      consistent = fit;
      there = lt;
      free = free_at (length due) (all_receipts seats) named place is lt (get_or_from_slice_get named place false false here);
      first =
          λ k less.
          let once = fit.once k in
          omega (arith, once, named_at (length due) (all_receipts seats) named k is (omega arith) (get_or_from_slice_get named k true false (before k less)));
    }

-- before any seat there are no receipts and no marks
pub nothing_taken : (due : List Receipt) → AreConsistent due []
nothing_taken due = record { stand = All-nil (Stands due); rise = All-nil Rises; once = λ k. omega arith }

pub no_marks : (n a : ℕ) → replicate n false ≡ map (λ (k : ℕ). nat_lt 0 (naming k [])) (range_with_len a n)
no_marks zero a = refl
no_marks (suc n) a = ap (λ (bs : List Bool). false ∷ bs) (no_marks n (a + 1))

-- with the receipt the seat's receipts aren't consistent
abbrev pub Ends : List Receipt → List Held → List Receipt → Receipt → Type 0
Ends due before mine r = (h : Held) → h.receipts ≡ mine ++ r ∷ [] → AreConsistent due (before ++ h ∷ []) → ⊥

-- the same over the list of a seat's receipts
pub misfit_by : (due : List Receipt) (seats : List Held) (i j : ℕ) (h : Held) (r : Receipt) (rs : List Receipt) (named : List Bool) (from : ℕ) → IsTaken due (take i seats) (take j rs) named from →
    i < length seats → h ≡ get_or seats i h → rs ≡ h.receipts → j < length rs → r ≡ get_or rs j r → Ends due (take i seats) (take j rs) r → IsMisfit due seats r
misfit_by due seats i j h r rs named from t lt is same less at ends =
    let there = slice_get_read seats (length seats) i h refl lt is in
    let its : slice_get h.receipts j ≡ Some r = ap (λ (xs : List Receipt). slice_get xs j) (sym same) ∙ slice_get_read rs (length rs) j r refl less at in
    let mine : take j rs ≡ take j h.receipts = ap (take j) same in
    misfit due seats i j h r named from (subst (λ xs. IsTaken due (take i seats) xs named from) mine t) there its
    (ends (front h (j + 1)) (one_more h.receipts j r its ∙ ap (λ (xs : List Receipt). xs ++ r ∷ []) (sym mine)))

pub seat_by : (due : List Receipt) (seats : List Held) (i j : ℕ) (h : Held) (rs : List Receipt) (named : List Bool) (from : ℕ) → IsTaken due (take i seats) (take j rs) named from → i < length seats → h ≡ get_or seats i h →
    rs ≡ h.receipts → length rs ≤ j → AreConsistent due (take (i + 1) seats) × (named ≡ marks (length due) (all_receipts (take (i + 1) seats)))
seat_by due seats i j h rs named from t lt is same end =
    taken_seat due seats i j h named from (subst (λ (xs : List Receipt). IsTaken due (take i seats) (take j xs) named from) same t) (slice_get_read seats (length seats) i h refl lt is)
    (subst (λ (xs : List Receipt). length xs ≤ j) same end)

pub receipt_by : (due : List Receipt) (before : List Held) (j : ℕ) (rs : List Receipt) (named : List Bool) (from : ℕ) (r : Receipt) → IsTaken due before (take j rs) named from → j < length rs → r ≡ get_or rs j r →
    slice_get due r.at ≡ Some r → from ≤ r.at → get_or named r.at false ≡ false → IsTaken due before (take (j + 1) rs) (set named r.at true) (r.at + 1)
receipt_by due before j rs named from r t less at stands later free =
    let more = one_more rs j r (slice_get_read rs (length rs) j r refl less at) in
    rw more (taken_more due before (take j rs) named from r t stands later (free_at (length due) (all_receipts before ++ take j rs) named r.at t.marked (slice_get_within due r.at r stands) free))

-- a receipt that stands has a mark to look at
pub has_mark : (due : List Receipt) (before : List Held) (mine : List Receipt) (named : List Bool) (from : ℕ) (r : Receipt) → IsTaken due before mine named from → slice_get due r.at ≡ Some r → r.at < length named
has_mark due before mine named from r t stands =
    let n = ap length t.marked ∙ length_marks (length due) (all_receipts before ++ mine) in
    omega (arith, n, slice_get_within due r.at r stands)

pub marked_already : (due : List Receipt) (before : List Held) (mine : List Receipt) (named : List Bool) (from : ℕ) (r : Receipt) → IsTaken due before mine named from → slice_get due r.at ≡ Some r → get_or named r.at false ≡ true → Ends due before mine r
marked_already due before mine named from r t stands mark h is =
    ends_unless_it_is_free due before h mine r is (named_at (length due) (all_receipts before ++ mine) named r.at t.marked (slice_get_within due r.at r stands) mark)

pub too_early : (due : List Receipt) (before : List Held) (mine : List Receipt) (named : List Bool) (from : ℕ) (r : Receipt) → IsTaken due before mine named from → r.at < from → Ends due before mine r
too_early due before mine named from r t less h is = ends_unless_it_rises due before h mine r is (omega (arith, t.behind, less))

-- the same when all seats are through
pub unnamed_by : (due : List Receipt) (seats : List Held) (named items : List Bool) (i place : ℕ) → AreConsistent due (take i seats) → named ≡ marks (length due) (all_receipts (take i seats)) → length seats ≤ i → items ≡ named →
    (slice_get items place ≡ Some false) × ((j : ℕ) → j < place → slice_get items j ≡ Some true) → IsUnnamed due seats place
unnamed_by due seats named items i place fit is end same found =
    let all : take i seats ≡ seats = take_all i seats end in
    unnamed due seats items place (subst (AreConsistent due) all fit) (same ∙ is ∙ ap (λ (hs : List Held). marks (length due) (all_receipts hs)) all) found.0 found.1

pub interleaved_by : (due : List Receipt) (seats : List Held) (named items : List Bool) (i : ℕ) → AreConsistent due (take i seats) → named ≡ marks (length due) (all_receipts (take i seats)) → length seats ≤ i → items ≡ named →
    ((k : ℕ) → k < length items → slice_get items k ≡ Some true) → AreInterleaved due seats
interleaved_by due seats named items i fit is end same all_true =
    let all : take i seats ≡ seats = take_all i seats end in
    interleaved due seats items (subst (AreConsistent due) all fit) (same ∙ is ∙ ap (λ (hs : List Held). marks (length due) (all_receipts hs)) all) all_true
