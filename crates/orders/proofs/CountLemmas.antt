-- counts of what passes two tests
use Rattle.std.proofs.Common.{◌≡◌, ℕ, zero, suc, ◌<◌, ◌≤◌, Bool, true, false, cond, refl, ap, sym, ◌∙◌, inl, inr, arith}
use Rattle.std.proofs.lemmas.Bool.{cases_eq, false_from_ne_true}
use Rattle.round_net.specs.Sums.{count_below}
use Rattle.round_net.proofs.SumLemmas.{sum_below-le, sum_below-same, term-le-sum_below}

implied : (b c : Bool) → (b ≡ true → c ≡ true) → ◌≤◌ (cond b 1 0) (cond c 1 0)
implied true c h = rw (h refl) (omega arith)
implied false c h = omega arith

-- equal tests count the same, and a weaker one no less
pub count_below-same : (n : ℕ) (p q : ℕ → Bool) → ((i : ℕ) → i < n → p i ≡ q i) → count_below n p ≡ count_below n q
count_below-same n p q same = sum_below-same n _ _ (λ i less. ap (λ b. cond b 1 0) (same i less))

pub count_below-weaker : (n : ℕ) (p q : ℕ → Bool) → ((i : ℕ) → i < n → p i ≡ true → q i ≡ true) → count_below n p ≤ count_below n q
count_below-weaker n p q weaker = sum_below-le n _ _ (λ i less. implied (p i) (q i) (weaker i less))

-- a weaker one that passes one number more counts more
pub count_below-more : (n k : ℕ) (p q : ℕ → Bool) → ((i : ℕ) → i < n → p i ≡ true → q i ≡ true) → k < n → p k ≡ false → q k ≡ true → count_below n p < count_below n q
count_below-more zero k p q weaker within fails passes = absurd (omega arith)
count_below-more (suc n) k p q weaker within fails passes = elim (cases_eq k n) [
  | inl same ↦
      let rest = count_below-weaker n p q (λ i less. weaker i (omega arith)) in
      let here : ◌≡◌ {A = ℕ} (cond (p n) 1 0) 0 = ap (λ b. cond b 1 0) (ap p (sym same) ∙ fails) in
      let there : ◌≡◌ {A = ℕ} (cond (q n) 1 0) 1 = ap (λ b. cond b 1 0) (ap q (sym same) ∙ passes) in
      omega arith
  | inr other ↦
      let rest = count_below-more n k p q (λ i less. weaker i (omega arith)) (omega arith) fails passes in
      let here = implied (p n) (q n) (weaker n (omega arith)) in
      omega arith
]

-- where none is counted, each fails
pub count_below-none : (n : ℕ) (p : ℕ → Bool) → count_below n p ≡ 0 → (i : ℕ) → i < n → p i ≡ false
count_below-none n p none i less = false_from_ne_true (p i) (λ passes.
    let one : ◌≡◌ {A = ℕ} (cond (p i) 1 0) 1 = ap (λ b. cond b 1 0) passes in
    omega (arith, term-le-sum_below n i (λ k. cond (p k) 1 0) less))
