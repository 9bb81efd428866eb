-- What is kept of sense data in 18 bytes.
use Rattle.std.proofs.Common.{◌≡◌, ℕ, ◌≤◌, List, length, take, sym, ap, ◌∙◌, arith, min, length-take}
use Rattle.std.proofs.lemmas.List.{take_all, take_min}

-- the first 18 of the first n bytes of 18 are the first n
pub sense_kept : (n : ℕ) (xs : List ℕ) → length xs ≡ 18 → take 18 (take (min n 18) xs) ≡ take n xs
sense_kept n xs whole =
    let short : length (take (min n 18) xs) ≤ 18 = omega (arith, length-take {A = ℕ}, whole) in
    take_all 18 (take (min n 18) xs) short ∙ ap (λ (most : ℕ). take (min n most) xs) (sym whole) ∙ take_min n xs
