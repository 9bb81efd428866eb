-- sums over the rows of tables
use Rattle.std.proofs.Common.{◌≡◌, ℕ, ◌+◌, List, [], ◌∷◌, refl, sym, ap, ◌∙◌, arith, sum_by}
use Rattle.std.proofs.lemmas.List.Sums.{sum_by-cons}

pub sum_eq : {X : Type 0} (f g : X → ℕ) (xs : List X) → ((x : X) → f x ≡ g x) → sum_by f xs ≡ sum_by g xs
sum_eq f g [] same = refl
sum_eq f g (x ∷ xs) same = omega (arith, sum_by-cons f x xs, sum_by-cons g x xs, same x, sum_eq f g xs same)

pub sum_zero : {X : Type 0} (f : X → ℕ) (xs : List X) → ((x : X) → f x ≡ 0) → sum_by f xs ≡ 0
sum_zero f [] none = refl
sum_zero f (x ∷ xs) none = omega (arith, sum_by-cons f x xs, none x, sum_zero f xs none)

pub sum_both : {X : Type 0} (f g : X → ℕ) (xs : List X) → sum_by (λ x. f x + g x) xs ≡ sum_by f xs + sum_by g xs
sum_both f g [] = refl
sum_both {X} f g (x ∷ xs) = omega (arith, sum_by-cons (λ (y : X). f y + g y) x xs, sum_by-cons f x xs, sum_by-cons g x xs, sum_both f g xs)

-- a sum of sums, in the other order
pub sum_swap : {X Y : Type 0} (f : X → Y → ℕ) (xs : List X) (ys : List Y) → sum_by (λ x. sum_by (f x) ys) xs ≡ sum_by (λ y. sum_by (λ x. f x y) xs) ys
sum_swap {X} {Y} f [] ys = sym (sum_zero (λ (y : Y). sum_by (λ (x : X). f x y) []) ys (λ y. refl))
sum_swap {X} {Y} f (x ∷ xs) ys =
    sum_by-cons (λ (x : X). sum_by (f x) ys) x xs
    ∙ ap (λ n. sum_by (f x) ys + n) (sum_swap f xs ys)
    ∙ sym (sum_both (f x) (λ (y : Y). sum_by (λ (x : X). f x y) xs) ys)
    ∙ sum_eq (λ (y : Y). f x y + sum_by (λ (x : X). f x y) xs) (λ (y : Y). sum_by (λ (x : X). f x y) (x ∷ xs)) ys (λ y. sym (sum_by-cons (λ (x : X). f x y) x xs))
