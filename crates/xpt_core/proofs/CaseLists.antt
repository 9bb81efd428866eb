-- lists of cases without a CCB, and round one
use Rattle.std.proofs.Common.{◌≡◌, ◌≢◌, ℕ, ◌+◌, cond, List, [], ◌∷◌, ◌++◌, refl, sym, ap, arith, inl, inr, ◌==◌}
use Rattle.std.specs.List.{AllByRecursion}
use Rattle.std.proofs.lemmas.Bool.{cases_eq, eq-eqb, ne_eqb}
use Rattle.std.proofs.lemmas.List.Sums.{sum_by-cons}
use Rattle.xpt_core.specs.Cases.{times, other_cases}

-- none of these is this one
abbrev pub Lacks : ℕ → List ℕ → Type 0
Lacks k xs = AllByRecursion (λ x. x ≢ k) xs

bit : (k x : ℕ) (xs : List ℕ) → times k (x ∷ xs) ≡ cond (x == k) 1 0 + times k xs
bit k x xs = sum_by-cons (λ y. cond {A = ℕ} (y == k) 1 0) x xs

pub lacks-times : (k : ℕ) (xs : List ℕ) → times k xs ≡ 0 → Lacks k xs
lacks-times k [] none = tt
lacks-times k (x ∷ xs) none = (
  (λ same. absurd (omega (arith, none, bit k x xs, ap (λ b. cond {A = ℕ} b 1 0) (eq-eqb x k same)))),
  lacks-times k xs (omega (arith, none, bit k x xs)),
)

-- where one of them stands, and the others
pub record IsSplit (k : ℕ) (xs l r : List ℕ) : Type 0 where
  pub whole : xs ≡ l ++ k ∷ r
  pub rest : other_cases k xs ≡ l ++ r

pub kept-all : (k : ℕ) (xs : List ℕ) → Lacks k xs → other_cases k xs ≡ xs
kept-all k [] h = refl
kept-all k (x ∷ xs) h = rw (ne_eqb k x (λ same. h.0 (sym same)), kept-all k xs h.1) refl

pub split-at : (k : ℕ) (xs : List ℕ) → times k xs ≡ 1 → (l : List ℕ) × (r : List ℕ) × IsSplit k xs l r
split-at k [] one = absurd (omega (arith, one))
split-at k (x ∷ xs) one = elim (cases_eq x k) [
  | inl same ↦
      let none : times k xs ≡ 0 = omega (arith, one, bit k x xs, ap (λ b. cond {A = ℕ} b 1 0) (eq-eqb x k same)) in
      ([], xs, record { whole = ap (λ y. y ∷ xs) same; rest = rw (eq-eqb k x (sym same)) (kept-all k xs (lacks-times k xs none)) })
  | inr ne ↦
      let s = split-at k xs (omega (arith, one, bit k x xs, ap (λ b. cond {A = ℕ} b 1 0) (ne_eqb x k ne))) in
      (x ∷ s.0, s.1, record { whole = ap (λ ys. x ∷ ys) s.2.whole; rest = rw (ne_eqb k x (λ same. ne (sym same))) (ap (λ ys. x ∷ ys) s.2.rest) })
]
