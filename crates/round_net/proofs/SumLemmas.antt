-- sums over ranges of numbers
use Rattle.std.proofs.Common.{◌≡◌, ◌≢◌, ℕ, zero, suc, ◌+◌, ◌*◌, ◌<◌, ◌≤◌, List, length, get_or, set, refl, sym, ap, ◌∙◌, inl, inr, arith, add-one, get_or-set_same, get_or-set_other}
use Rattle.std.proofs.lemmas.Bool.{cases_eq}
use Rattle.round_net.specs.Sums.{sum_below, sum_to}

-- one number more
pub sum_below-more : (n : ℕ) (g : ℕ → ℕ) → sum_below (n + 1) g ≡ sum_below n g + g n
sum_below-more n g = rw add-one refl

-- the first number apart
pub sum_below-shift : (n : ℕ) (g : ℕ → ℕ) → sum_below (suc n) g ≡ g 0 + sum_below n (λ i. g (suc i))
sum_below-shift zero g = omega arith
sum_below-shift (suc n) g = omega (arith, sum_below-shift n g)

-- sums of equal, of larger, and of added terms
pub sum_below-same : (n : ℕ) (g h : ℕ → ℕ) → ((i : ℕ) → i < n → g i ≡ h i) → sum_below n g ≡ sum_below n h
sum_below-same zero g h e = refl
sum_below-same (suc n) g h e =
    let rest = sum_below-same n g h (λ i less. e i (omega arith)) in
    let here = e n (omega arith) in
    omega arith

pub sum_below-le : (n : ℕ) (g h : ℕ → ℕ) → ((i : ℕ) → i < n → g i ≤ h i) → sum_below n g ≤ sum_below n h
sum_below-le zero g h e = omega arith
sum_below-le (suc n) g h e =
    let rest = sum_below-le n g h (λ i less. e i (omega arith)) in
    let here = e n (omega arith) in
    omega arith

pub sum_to-le : (n : ℕ) (g h : ℕ → ℕ) → ((r : ℕ) → 1 ≤ r → r ≤ n → g r ≤ h r) → sum_to n g ≤ sum_to n h
sum_to-le n g h e = sum_below-le n (λ i. g (i + 1)) (λ i. h (i + 1)) (λ i less. e (i + 1) (omega arith) (omega arith))

-- a sum of terms that are at most so large
pub sum_below-most : (n most : ℕ) (g : ℕ → ℕ) → ((i : ℕ) → i < n → g i ≤ most) → sum_below n g ≤ n * most
sum_below-most zero most g h = omega arith
sum_below-most (suc n) most g h = omega (arith, sum_below-most n most g (λ i lt. h i (omega (arith, lt))), h n (omega arith))

pub sum_below-add : (n : ℕ) (g h : ℕ → ℕ) → sum_below n (λ i. g i + h i) ≡ sum_below n g + sum_below n h
sum_below-add zero g h = refl
sum_below-add (suc n) g h = let rest = sum_below-add n g h in omega arith

pub sum_below-zero : (n : ℕ) (g : ℕ → ℕ) → ((i : ℕ) → i < n → g i ≡ 0) → sum_below n g ≡ 0
sum_below-zero zero g e = refl
sum_below-zero (suc n) g e =
    let rest = sum_below-zero n g (λ i less. e i (omega arith)) in
    let here = e n (omega arith) in
    omega arith

-- a sum of which one term alone isn't 0
pub sum_below-one : (n k : ℕ) (g : ℕ → ℕ) → k < n → ((i : ℕ) → i < n → i ≢ k → g i ≡ 0) → sum_below n g ≡ g k
sum_below-one zero k g inside others = absurd (omega arith)
sum_below-one (suc n) k g inside others = elim (cases_eq k n) [
  | inl same ↦
      let rest = sum_below-zero n g (λ i less. others i (omega arith) (omega arith)) in
      let here : g k ≡ g n = ap g same in
      omega arith
  | inr other ↦
      let rest = sum_below-one n k g (omega arith) (λ i less. others i (omega arith)) in
      let here = others n (omega arith) (omega arith) in
      omega arith
]

-- one term is within the sum
pub term-le-sum_below : (n k : ℕ) (g : ℕ → ℕ) → k < n → g k ≤ sum_below n g
term-le-sum_below zero k g inside = absurd (omega arith)
term-le-sum_below (suc n) k g inside = elim (cases_eq k n) [
  | inl same ↦ let here : g k ≡ g n = ap g same in omega arith
  | inr other ↦ let rest = term-le-sum_below n k g (omega arith) in omega arith
]

-- a sum over what a list has at each place, when a place beyond the sum is written
sum_below-set_past : (n place value : ℕ) (g : ℕ → ℕ → ℕ) (xs : List ℕ) → n ≤ place → sum_below n (λ i. g i (get_or (set xs place value) i 0)) ≡ sum_below n (λ i. g i (get_or xs i 0))
sum_below-set_past n place value g xs past = sum_below-same n _ _ (λ i less. let other : i ≢ place = omega arith in ap (g i) (get_or-set_other xs place i value 0 other))

-- the same when a place within it is written
pub sum_below-set : (n place value : ℕ) (g : ℕ → ℕ → ℕ) (xs : List ℕ) → place < n → place < length xs → sum_below n (λ i. g i (get_or (set xs place value) i 0)) + g place (get_or xs place 0) ≡ sum_below n (λ i. g i (get_or xs i 0)) + g place value
sum_below-set zero place value g xs inside known = absurd (omega arith)
sum_below-set (suc n) place value g xs inside known = elim (cases_eq place n) [
  | inl same ↦
      let rest = sum_below-set_past n place value g xs (omega arith) in
      let here : g n (get_or (set xs place value) n 0) ≡ g place value = ap (λ (i : ℕ). g i (get_or (set xs place value) i 0)) (sym same) ∙ ap (g place) (get_or-set_same xs place value 0 known) in
      let was : g n (get_or xs n 0) ≡ g place (get_or xs place 0) = ap (λ (i : ℕ). g i (get_or xs i 0)) (sym same) in
      omega arith
  | inr other ↦
      let rest = sum_below-set n place value g xs (omega arith) known in
      let apart : n ≢ place = omega arith in
      let here : g n (get_or (set xs place value) n 0) ≡ g n (get_or xs n 0) = ap (g n) (get_or-set_other xs place n value 0 apart) in
      omega arith
]
