-- the rows that a stay uses are those of its path
use Rattle.std.proofs.Common.{◌≡◌, ℕ, ◌<◌, Bool, true, List, [], ◌∷◌, refl, subst, inl, inr, ◌==◌, All}
use Rattle.std.specs.List.{list_all, list_any}
use Rattle.std.proofs.lemmas.Bool.{or_cases, or_left, or_right, and_from, eqb-true, eq-eqb}
use Rattle.std.proofs.lemmas.List.Elements.{All-head, All-tail}
use Rattle.price_check.specs.Words.{Instance, rows, path, uses, IsSound}
use Rattle.round_net.proofs.PathLemmas.{path-inside}

-- what holds of each number of a list holds of one that is among them
pub of_used : (q : ℕ → Type 0) (own : List ℕ) (row : ℕ) → All q own → list_any (λ x. x == row) own ≡ true → q row
of_used q [] row h e = absurd cc
of_used q (x ∷ xs) row h e = elim (or_cases (x == row) (list_any (λ y. y == row) xs) e) [
  | inl here ↦ subst q (eqb-true x row here) (All-head q x xs h)
  | inr later ↦ of_used q xs row (All-tail q x xs h) later
]

-- a test that each number among them passes passes for all
pub on_used : (p : ℕ → Bool) (own : List ℕ) → ((row : ℕ) → list_any (λ x. x == row) own ≡ true → p row ≡ true) → list_all p own ≡ true
on_used p [] h = refl
on_used p (x ∷ xs) h = and_from (p x) (list_all p xs) (h x (or_left (x == x) _ (eq-eqb x x refl))) (on_used p xs (λ row e. h row (or_right (x == row) _ e)))

-- a row that a stay uses is one of the net's
pub used_within : (net : Instance) (live : ℕ → ℕ) (s row : ℕ) → IsSound net live → s < net.stays → uses net row s ≡ true → row < rows net
used_within net live s row sound lt own = of_used (λ x. x < rows net) (path net s) row (path-inside net live s sound lt) own
