-- sums and counts over ranges of numbers
use Rattle.std.specs.Prelude.{ℕ, zero, suc, ◌+◌, Bool, nat_le, cond, if◌then◌else◌, List, [], ◌∷◌}

-- g 0 + .. + g (n - 1)
abbrev pub sum_below : ℕ → (ℕ → ℕ) → ℕ
sum_below zero g = 0
sum_below (suc n) g = sum_below n g + g n

-- g 1 + .. + g n
abbrev pub sum_to : ℕ → (ℕ → ℕ) → ℕ
sum_to n g = sum_below n (λ i. g (i + 1))

-- how many numbers below n pass the test
abbrev pub count_below : ℕ → (ℕ → Bool) → ℕ
count_below n test = sum_below n (λ i. cond (test i) 1 0)

-- the least of the numbers, and 0 of none
abbrev pub least : List ℕ → ℕ
least [] = 0
least (x ∷ []) = x
least (x ∷ y ∷ ys) = let rest = least (y ∷ ys) in if nat_le x rest then x else rest
