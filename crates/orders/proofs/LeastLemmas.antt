-- The least of numbers that are made from a range.
use Rattle.std.proofs.Common.{◌≡◌, ℕ, zero, suc, ◌+◌, ◌<◌, ◌≤◌, ◌⊎◌, Bool, true, false, cond, nat_le, List, [], ◌∷◌, map, filter, refl, sym, ap, ◌∙◌, subst, inl, inr, arith}
use Rattle.std.proofs.lemmas.Bool.{cases_eq, cases_lt, cond-true, cond-false, le-leb, lt-leb}
use Rattle.std.specs.List.{range_with_len}
use Rattle.round_net.specs.Sums.{least}

-- a number is in a list
abbrev pub In : ℕ → List ℕ → Type 0
In x [] = ⊥
In x (y ∷ ys) = (x ≡ y) ⊎ In x ys

-- what is in a range, in a part of a list, and in a list of values
pub In-range : (x from n : ℕ) → from ≤ x → x < from + n → In x (range_with_len from n)
In-range x from zero low high = absurd (omega arith)
In-range x from (suc n) low high = elim (cases_eq x from) [
  | inl same ↦ inl same
  | inr other ↦ inr (In-range x (from + 1) n (omega arith) (omega arith))
]

pub range-In : (x from n : ℕ) → In x (range_with_len from n) → (from ≤ x) × (x < from + n)
range-In x from zero h = absurd h
range-In x from (suc n) h = elim h [
  | inl same ↦ (omega arith, omega arith)
  | inr later ↦ let rest = range-In x (from + 1) n later in (omega (arith, rest.0), omega (arith, rest.1))
]

pub In-filter : (test : ℕ → Bool) (x : ℕ) (xs : List ℕ) → In x xs → test x ≡ true → In x (filter test xs)
In-filter test x [] h pass = h
In-filter test x (y ∷ ys) h pass = elim h [
  | inl same ↦ subst (In x) (sym (cond-true (test y) (y ∷ filter test ys) (filter test ys) (ap test (sym same) ∙ pass))) (inl same)
  | inr later ↦
      let rest = In-filter test x ys later pass in
      elim (test y) as (λ b. In x (cond b (y ∷ filter test ys) (filter test ys))) [ true ↦ inr rest | false ↦ rest ]
]

pub filter-In : (test : ℕ → Bool) (x : ℕ) (xs : List ℕ) → In x (filter test xs) → In x xs × (test x ≡ true)
filter-In test x [] h = absurd h
filter-In test x (y ∷ ys) h =
    let go = elim (test y) as (λ b. test y ≡ b → In x (cond b (y ∷ filter test ys) (filter test ys)) → In x (y ∷ ys) × (test x ≡ true)) [
      | true ↦ λ e i. elim i [
        | inl same ↦ (inl same, ap test same ∙ e)
        | inr later ↦ let rest = filter-In test x ys later in (inr rest.0, rest.1)
      ]
      | false ↦ λ e i. let rest = filter-In test x ys i in (inr rest.0, rest.1)
    ] in
    go refl h

pub In-map : (g : ℕ → ℕ) (x : ℕ) (xs : List ℕ) → In x xs → In (g x) (map g xs)
In-map g x [] h = h
In-map g x (y ∷ ys) h = elim h [ inl same ↦ inl (ap g same) | inr later ↦ inr (In-map g x ys later) ]

pub map-In : (g : ℕ → ℕ) (z : ℕ) (xs : List ℕ) → In z (map g xs) → (x : ℕ) × In x xs × (z ≡ g x)
map-In g z [] h = absurd h
map-In g z (y ∷ ys) h = elim h [
  | inl same ↦ (y, inl refl, same)
  | inr later ↦ let rest = map-In g z ys later in (rest.0, inr rest.1, rest.2)
]

-- the least is in the list, and no number in it is less
pub least-In : (x : ℕ) (xs : List ℕ) → In x xs → In (least xs) xs
least-In x [] h = h
least-In x (y ∷ []) h = inl refl
least-In x (y ∷ z ∷ zs) h =
    let rest = least-In z (z ∷ zs) (inl refl) in
    elim (nat_le y (least (z ∷ zs))) as (λ b. In (cond b y (least (z ∷ zs))) (y ∷ z ∷ zs)) [ true ↦ inl refl | false ↦ inr rest ]

pub least-le : (x : ℕ) (xs : List ℕ) → In x xs → least xs ≤ x
least-le x [] h = absurd h
least-le x (y ∷ []) h = elim h [ inl same ↦ omega arith | inr never ↦ absurd never ]
least-le x (y ∷ z ∷ zs) h = elim (cases_lt (least (z ∷ zs)) y) [
  | inl less ↦
      let e : least (y ∷ z ∷ zs) ≡ least (z ∷ zs) = cond-false (nat_le y (least (z ∷ zs))) y (least (z ∷ zs)) (lt-leb y (least (z ∷ zs)) less) in
      elim h [ inl same ↦ omega (arith, e) | inr later ↦ omega (arith, e, least-le x (z ∷ zs) later) ]
  | inr first ↦
      let e : least (y ∷ z ∷ zs) ≡ y = cond-true (nat_le y (least (z ∷ zs))) y (least (z ∷ zs)) (le-leb y (least (z ∷ zs)) first) in
      elim h [ inl same ↦ omega (arith, e) | inr later ↦ omega (arith, e, least-le x (z ∷ zs) later) ]
]

-- the least value over part of a range is the one at a place where no other is less
pub least-at : (g : ℕ → ℕ) (test : ℕ → Bool) (from n best : ℕ) → from ≤ best → best < from + n → test best ≡ true → ((x : ℕ) → from ≤ x → x < from + n → test x ≡ true → g best ≤ g x) → least (map g (filter test (range_with_len from n))) ≡ g best
least-at g test from n best low high pass no_less =
    let xs : List ℕ = filter test (range_with_len from n) in
    let found : In (g best) (map g xs) = In-map g best xs (In-filter test best (range_with_len from n) (In-range best from n low high) pass) in
    let (x, in_xs, is) = map-In g (least (map g xs)) xs (least-In (g best) (map g xs) found) in
    let (in_range, passes) = filter-In test x (range_with_len from n) in_xs in
    let (from_le, below) = range-In x from n in_range in
    let above = no_less x from_le below passes in
    omega (arith, least-le (g best) (map g xs) found, above, is)
