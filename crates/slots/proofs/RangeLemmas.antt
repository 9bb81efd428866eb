-- sums over ranges of numbers
use Rattle.std.proofs.Common.{◌≡◌, ℕ, zero, suc, ◌+◌, ◌-◌, ◌*◌, ◌<◌, ◌≤◌, ◌&&◌, Bool, true, false, cond, List, [], ◌∷◌, ◌++◌, length, filter, refl, sym, ap, ◌∙◌, arith, inl, inr, nat_lt, nat_le, Some}
use Rattle.std.specs.List.{count_by, sum_by, flat_map, range_with_len, find}
use Rattle.std.proofs.lemmas.Bool.{cases_lt, le-leb, lt-leb, lt-ltb, le-ltb}
use Rattle.std.proofs.lemmas.List.Sums.{sum_by-append, sum_by-cons}
use Rattle.std.proofs.lemmas.List.{append-nil}
use Rattle.std.proofs.lemmas.List.Elements.{filter-append}
use Rattle.slots.proofs.TallyLemmas.{count-append}

pub range-add : (a m n : ℕ) → range_with_len a (m + n) ≡ range_with_len a m ++ range_with_len (a + m) n
range-add a zero n =
    let none : zero + n ≡ n = omega arith in
    let same : a ≡ a + zero = omega arith in
    ap (range_with_len a) none ∙ ap (λ b. range_with_len b n) same
range-add a (suc m) n =
    let more : suc m + n ≡ suc (m + n) = omega arith in
    let same : a + 1 + m ≡ a + suc m = omega arith in
    ap (range_with_len a) more ∙ ap (λ ks. a ∷ ks) (range-add (a + 1) m n ∙ ap (λ b. range_with_len (a + 1) m ++ range_with_len b n) same)

-- two sums of the same numbers
pub sum-same : (f g : ℕ → ℕ) (a n : ℕ) → ((k : ℕ) → a ≤ k → k < a + n → f k ≡ g k) → sum_by f (range_with_len a n) ≡ sum_by g (range_with_len a n)
sum-same f g a zero h = refl
sum-same f g a (suc n) h =
    let rest = sum-same f g (a + 1) n (λ k low high. h k (omega arith) (omega arith)) in
    let head = h a (omega arith) (omega arith) in
    let x = sum_by-cons f a (range_with_len (a + 1) n) in
    let y = sum_by-cons g a (range_with_len (a + 1) n) in
    omega (arith, rest, head, x, y)

-- sums that balance number by number
pub sum-balance : (f g h p q : ℕ → ℕ) (a n : ℕ) → ((k : ℕ) → a ≤ k → k < a + n → f k + g k + h k ≡ p k + q k) → sum_by f (range_with_len a n) + sum_by g (range_with_len a n) + sum_by h (range_with_len a n) ≡ sum_by p (range_with_len a n) + sum_by q (range_with_len a n)
sum-balance f g h p q a zero each = refl
sum-balance f g h p q a (suc n) each =
    let rest = sum-balance f g h p q (a + 1) n (λ k low high. each k (omega arith) (omega arith)) in
    let head = each a (omega arith) (omega arith) in
    let ks : List ℕ = range_with_len (a + 1) n in
    omega (arith, rest, head, sum_by-cons f a ks, sum_by-cons g a ks, sum_by-cons h a ks, sum_by-cons p a ks, sum_by-cons q a ks)

pub sum-below : (f g h : ℕ → ℕ) (a n : ℕ) → ((k : ℕ) → a ≤ k → k < a + n → f k + g k ≤ h k) → sum_by f (range_with_len a n) + sum_by g (range_with_len a n) ≤ sum_by h (range_with_len a n)
sum-below f g h a zero each = omega arith
sum-below f g h a (suc n) each =
    let rest = sum-below f g h (a + 1) n (λ k low high. each k (omega arith) (omega arith)) in
    let head = each a (omega arith) (omega arith) in
    let ks : List ℕ = range_with_len (a + 1) n in
    omega (arith, rest, head, sum_by-cons f a ks, sum_by-cons g a ks, sum_by-cons h a ks)

pub sum-most : (f : ℕ → ℕ) (m a n : ℕ) → ((k : ℕ) → a ≤ k → k < a + n → f k ≤ m) → sum_by f (range_with_len a n) ≤ n * m
sum-most f m a zero each = omega arith
sum-most f m a (suc n) each =
    let rest = sum-most f m (a + 1) n (λ k low high. each k (omega arith) (omega arith)) in
    let head = each a (omega arith) (omega arith) in
    omega (arith, rest, head, sum_by-cons f a (range_with_len (a + 1) n))

sum-zero : (f : ℕ → ℕ) (a n : ℕ) → ((k : ℕ) → a ≤ k → k < a + n → f k ≡ 0) → sum_by f (range_with_len a n) ≡ 0
sum-zero f a zero each = refl
sum-zero f a (suc n) each =
    let rest = sum-zero f (a + 1) n (λ k low high. each k (omega arith) (omega arith)) in
    let head = each a (omega arith) (omega arith) in
    omega (arith, rest, head, sum_by-cons f a (range_with_len (a + 1) n))

-- the part of a sum from one number up to before another
abbrev pub within : ℕ → ℕ → (ℕ → ℕ) → ℕ → ℕ
within from to f k = cond (nat_le from k && nat_lt k to) (f k) 0

within-out : (from to : ℕ) (f : ℕ → ℕ) (k : ℕ) → k < from → within from to f k ≡ 0
within-out from to f k below = rw (lt-leb from k below) refl

within-past : (from to : ℕ) (f : ℕ → ℕ) (k : ℕ) → to ≤ k → within from to f k ≡ 0
within-past from to f k past = rw (le-ltb k to past) (elim (nat_le from k) as (λ b. cond (b && false) (f k) 0 ≡ 0) [ true ↦ refl | false ↦ refl ])

within-in : (from to : ℕ) (f : ℕ → ℕ) (k : ℕ) → from ≤ k → k < to → within from to f k ≡ f k
within-in from to f k low high = rw (le-leb from k low, lt-ltb k to high) refl

pub sum-within : (f : ℕ → ℕ) (n from to : ℕ) → 1 ≤ from → to ≤ n + 1 → sum_by (within from to f) (range_with_len 1 n) ≡ sum_by f (range_with_len from (to - from))
sum-within f n from to low high = elim (cases_lt from to) [
  | inr none ↦
      let empty : to - from ≡ 0 = omega arith in
      let all = sum-zero (within from to f) 1 n (λ k _ _. elim (cases_lt k from) [ inl below ↦ within-out from to f k below | inr above ↦ within-past from to f k (omega arith) ]) in
      all ∙ ap (λ m. sum_by f (range_with_len from m)) (sym empty)
  | inl some ↦
      let parts : n ≡ (from - 1) + ((to - from) + (n + 1 - to)) = omega arith in
      let first : 1 + (from - 1) ≡ from = omega arith in
      let second : from + (to - from) ≡ to = omega arith in
      let split : range_with_len 1 n ≡ range_with_len 1 (from - 1) ++ (range_with_len from (to - from) ++ range_with_len to (n + 1 - to)) =
      ap (range_with_len 1) parts ∙ range-add 1 (from - 1) ((to - from) + (n + 1 - to)) ∙ ap (λ b. range_with_len 1 (from - 1) ++ range_with_len b ((to - from) + (n + 1 - to))) first
      ∙ ap (λ ks. range_with_len 1 (from - 1) ++ ks) (range-add from (to - from) (n + 1 - to) ∙ ap (λ b. range_with_len from (to - from) ++ range_with_len b (n + 1 - to)) second) in
      let g : ℕ → ℕ = within from to f in
      let a = sum_by-append g (range_with_len 1 (from - 1)) (range_with_len from (to - from) ++ range_with_len to (n + 1 - to)) in
      let b = sum_by-append g (range_with_len from (to - from)) (range_with_len to (n + 1 - to)) in
      let x = sum-zero g 1 (from - 1) (λ k _ less. within-out from to f k (omega arith)) in
      let y = sum-same g f from (to - from) (λ k at less. within-in from to f k at (omega arith)) in
      let z = sum-zero g to (n + 1 - to) (λ k at _. within-past from to f k at) in
      let whole = ap (sum_by g) split in
      omega (arith, whole, a, b, x, y, z)
]

-- how many pass a test, of lists that are joined
pub count-flat : {X : Type 0} (p : ℕ → Bool) (f : X → List ℕ) (xs : List X) → count_by p (flat_map f xs) ≡ sum_by (λ x. count_by p (f x)) xs
count-flat p f [] = refl
count-flat p f (x ∷ xs) =
    let rest = count-flat p f xs in
    omega (arith, count-append p (f x) (flat_map f xs), sum_by-cons (λ y. count_by p (f y)) x xs, rest)

pub count-all : {X : Type 0} (xs : List X) → count_by (λ _. true) xs ≡ length xs
count-all [] = refl
count-all (x ∷ xs) = let rest = count-all xs in omega (arith, sum_by-cons (λ _. 1) x xs, rest)

-- the first number of a range that passes
pub find-first : (p : ℕ → Bool) (a n t : ℕ) → a ≤ t → t < a + n → ((k : ℕ) → a ≤ k → k < t → p k ≡ false) → p t ≡ true → find p (range_with_len a n) ≡ Some t
find-first p a zero t low high before here = absurd (omega arith)
find-first p a (suc n) t low high before here = elim (cases_lt a t) [
  | inl later ↦ rw (before a (omega arith) later) (find-first p (a + 1) n t (omega arith) (omega arith) (λ k at less. before k (omega arith) less) here)
  | inr now ↦ let same : a ≡ t = omega arith in rw same (rw here refl)
]

-- none passes
filter-none : (p : ℕ → Bool) (a n : ℕ) → ((k : ℕ) → a ≤ k → k < a + n → p k ≡ false) → filter p (range_with_len a n) ≡ []
filter-none p a zero none = refl
filter-none p a (suc n) none = rw (none a (omega arith) (omega arith)) (filter-none p (a + 1) n (λ k low high. none k (omega arith) (omega arith)))

-- those that pass up to a number, if none does from another on
pub filter-same : (p : ℕ → Bool) (m n : ℕ) → m ≤ n → ((k : ℕ) → m ≤ k → k < n → p k ≡ false) → filter p (range_with_len 0 n) ≡ filter p (range_with_len 0 m)
filter-same p m n le none =
    let parts : n ≡ m + (n - m) = omega arith in
    let zero' : 0 + m ≡ m = omega arith in
    ap (λ k. filter p (range_with_len 0 k)) parts ∙ ap (filter p) (range-add 0 m (n - m)) ∙ filter-append p (range_with_len 0 m) (range_with_len (0 + m) (n - m)) ∙ ap (λ k. filter p (range_with_len 0 m) ++ filter p (range_with_len k (n - m))) zero' ∙ ap (λ ks. filter p (range_with_len 0 m) ++ ks) (filter-none p m (n - m) (λ k low high. none k low (omega arith))) ∙ append-nil (filter p (range_with_len 0 m))

pub filter-one : (p : ℕ → Bool) (n : ℕ) → filter p (range_with_len 0 (n + 1)) ≡ filter p (range_with_len 0 n) ++ cond (p n) (n ∷ []) []
filter-one p n =
    let zero' : 0 + n ≡ n = omega arith in
    ap (filter p) (range-add 0 n 1) ∙ filter-append p (range_with_len 0 n) (range_with_len (0 + n) 1) ∙ ap (λ k. filter p (range_with_len 0 n) ++ filter p (range_with_len k 1)) zero'
