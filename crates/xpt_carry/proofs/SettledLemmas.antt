-- a test that some elements pass counts them
use Rattle.std.proofs.Common.{◌≡◌, ◌+◌, Bool, true, false, cond, List, [], ◌∷◌, refl, ap, ◌∙◌, not, ◌==◌, ◌||◌, count_by, zero-add, arith}
use Rattle.std.specs.List.{list_any}
use Rattle.std.proofs.lemmas.Bool.{ne_eqb}
use Rattle.std.proofs.lemmas.List.Sums.{sum_by-cons}

any_cases : {X : Type 0} (p : X → Bool) (x : X) (xs : List X) (b : Bool) → not (count_by p xs == 0) ≡ list_any p xs → not ((cond b 1 0 + count_by p xs) == 0) ≡ (b || list_any p xs)
any_cases p x xs true rest = ap not (ne_eqb (1 + count_by p xs) 0 (λ e. absurd (omega (arith, e))))
any_cases p x xs false rest = ap (λ n. not (n == 0)) (zero-add (count_by p xs)) ∙ rest

pub any_counted : {X : Type 0} (p : X → Bool) (xs : List X) → not (count_by p xs == 0) ≡ list_any p xs
any_counted p [] = refl
any_counted p (x ∷ xs) = ap (λ n. not (n == 0)) (sum_by-cons (λ y. cond (p y) 1 0) x xs) ∙ any_cases p x xs (p x) (any_counted p xs)
