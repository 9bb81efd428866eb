-- what goes by tests and functions that agree on a range
use Rattle.std.proofs.Common.{◌≡◌, ℕ, zero, suc, ◌+◌, ◌<◌, ◌≤◌, Bool, true, false, cond, ◌∷◌, map, filter, find, refl, arith}
use Rattle.std.specs.List.{range_with_len}

pub filter_alike : (s t : ℕ → Bool) (a n : ℕ) → ((q : ℕ) → a ≤ q → q < a + n → s q ≡ t q) → filter s (range_with_len a n) ≡ filter t (range_with_len a n)
filter_alike s t a zero h = refl
filter_alike s t a (suc n) h = rw (h a (omega arith) (omega arith), filter_alike s t (a + 1) n (λ q low high. h q (omega arith) (omega arith))) refl

pub find_alike : (s t : ℕ → Bool) (a n : ℕ) → ((q : ℕ) → a ≤ q → q < a + n → s q ≡ t q) → find s (range_with_len a n) ≡ find t (range_with_len a n)
find_alike s t a zero h = refl
find_alike s t a (suc n) h = rw (h a (omega arith) (omega arith), find_alike s t (a + 1) n (λ q low high. h q (omega arith) (omega arith))) refl

pub map_alike : {X : Type 0} (f g : ℕ → X) (t : ℕ → Bool) (a n : ℕ) → ((q : ℕ) → a ≤ q → q < a + n → f q ≡ g q) → map f (filter t (range_with_len a n)) ≡ map g (filter t (range_with_len a n))
map_alike f g t a zero h = refl
map_alike f g t a (suc n) h =
    let rest = map_alike f g t (a + 1) n (λ q low high. h q (omega arith) (omega arith)) in
    let here = h a (omega arith) (omega arith) in
    elim (t a) as (λ b. map f (cond b (a ∷ filter t (range_with_len (a + 1) n)) (filter t (range_with_len (a + 1) n))) ≡ map g (cond b (a ∷ filter t (range_with_len (a + 1) n)) (filter t (range_with_len (a + 1) n)))) [
      | true ↦ rw (here, rest) refl
      | false ↦ rest
    ]
