-- how many commands the steps of all drivers ask for, driver by driver
use Rattle.std.proofs.Common.{◌≡◌, ℕ, ◌+◌, ◌<◌, ◌≤◌, List, [], ◌∷◌, length, map, take, get_or, sum_by, refl, sym, ap, ◌∙◌, arith}
use Rattle.std.proofs.lemmas.List.Sums.{sum_by-cons, sum_by_more_le_part}

-- the sum over lists that stand in others
pub sum_in : {V X : Type 0} (items : V → List X) (f : List X → ℕ) (lists : List V) → sum_by f (map items lists) ≡ sum_by (λ v. f (items v)) lists
sum_in items f [] = refl
sum_in items f (v ∷ vs) =
    sum_by-cons f (items v) (map items vs) ∙ ap (λ n. f (items v) + n) (sum_in items f vs) ∙ sym (sum_by-cons (λ w. f (items w)) v vs)

-- some of each list more is no more than all of all
pub some_fit : {V X : Type 0} (items : V → List X) (f g : List X → ℕ) (lists : List V) (i : ℕ) (d : V) (most : ℕ) → ((xs : List X) → f xs ≤ g xs) → sum_by g (map items lists) ≤ most → i < length lists →
    sum_by f (map items (take i lists)) + f (items (get_or lists i d)) ≤ most
some_fit items f g lists i d most less few lt =
    omega (arith, few, sum_in items g lists, sum_in items f (take i lists), sum_by_more_le_part (λ v. f (items v)) (λ v. g (items v)) lists i d lt (λ v. less (items v)))

pub some_few : {X : Type 0} (f g : X → ℕ) → ((x : X) → f x ≤ g x) → (xs : List X) → sum_by f xs ≤ sum_by g xs
some_few f g less [] = omega arith
some_few f g less (x ∷ xs) = omega (arith, less x, sum_by-cons f x xs, sum_by-cons g x xs, some_few f g less xs)
