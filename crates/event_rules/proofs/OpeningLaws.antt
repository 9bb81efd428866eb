-- what stands before the last element that passes a test, with one element more
use Rattle.std.proofs.Common.{◌≡◌, ℕ, ◌+◌, ◌-◌, Bool, true, false, cond, List, [], ◌∷◌, ◌++◌, length, take, refl, ap, ◌∙◌, arith, length-append, not}
use Rattle.std.specs.List.{before_last, suffix_len, prefix_len}
use Rattle.std.proofs.lemmas.List.{reverse-append, take-append-le}
use Rattle.std.proofs.Math.Seq.{take-append_seam}

suffix-push : {X : Type 0} (q : X → Bool) (xs : List X) (x : X) → suffix_len q (xs ++ x ∷ []) ≡ cond (q x) (1 + suffix_len q xs) 0
suffix-push q xs x = ap (prefix_len q) (reverse-append xs (x ∷ [])) ∙ refl

taken_seam : {X : Type 0} (n : ℕ) (xs ys : List X) → n ≡ length xs → take n (xs ++ ys) ≡ xs
taken_seam n xs ys e = ap (λ k. take k (xs ++ ys)) e ∙ take-append_seam xs ys

before_cases : {X : Type 0} (p : X → Bool) (xs : List X) (x : X) (b : Bool) → p x ≡ b → before_last p (xs ++ x ∷ []) ≡ cond b xs (before_last p xs)
before_cases p xs x true is =
    let s : suffix_len (λ y. not (p y)) (xs ++ x ∷ []) ≡ 0 = suffix-push (λ y. not (p y)) xs x ∙ ap (λ b. cond (not b) (1 + suffix_len (λ y. not (p y)) xs) 0) is in
    taken_seam _ xs (x ∷ []) (omega (arith, length-append xs (x ∷ []), s))
before_cases p xs x false is =
    let s : suffix_len (λ y. not (p y)) (xs ++ x ∷ []) ≡ 1 + suffix_len (λ y. not (p y)) xs = suffix-push (λ y. not (p y)) xs x ∙ ap (λ b. cond (not b) (1 + suffix_len (λ y. not (p y)) xs) 0) is in
    let n : length (xs ++ x ∷ []) - suffix_len (λ y. not (p y)) (xs ++ x ∷ []) - 1 ≡ length xs - suffix_len (λ y. not (p y)) xs - 1 = omega (arith, length-append xs (x ∷ []), s) in
    ap (λ k. take k (xs ++ x ∷ [])) n ∙ take-append-le (length xs - suffix_len (λ y. not (p y)) xs - 1) xs (x ∷ []) (omega arith)

pub before_last-push : {X : Type 0} (p : X → Bool) (xs : List X) (x : X) → before_last p (xs ++ x ∷ []) ≡ cond (p x) xs (before_last p xs)
before_last-push p xs x = before_cases p xs x (p x) refl
