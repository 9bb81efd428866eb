-- counts over lists
use Rattle.std.proofs.Common.{◌≡◌, ℕ, ◌+◌, ◌≤◌, Bool, true, false, cond, List, [], ◌∷◌, ◌++◌, refl, ap, arith, ◌&&◌, ◌||◌, filter, map, count_by, All}
use Rattle.std.specs.List.{list_any}
use Rattle.std.proofs.lemmas.List.Sums.{sum_by-cons, sum_by-append}
use Rattle.std.proofs.lemmas.List.Elements.{All-head, All-tail, All-cons, All-nil}
use Rattle.std.proofs.lemmas.Bool.{and_parts}

pub count_by-cons : {X : Type 0} (q : X → Bool) (x : X) (xs : List X) → count_by q (x ∷ xs) ≡ cond (q x) 1 0 + count_by q xs
count_by-cons q x xs = sum_by-cons (λ y. cond (q y) 1 0) x xs

pub count_by-append : {X : Type 0} (q : X → Bool) (xs ys : List X) → count_by q (xs ++ ys) ≡ count_by q xs + count_by q ys
count_by-append q xs ys = sum_by-append (λ y. cond (q y) 1 0) xs ys

pub count_by-none : {X : Type 0} (q : X → Bool) (xs : List X) → All (λ x. q x ≡ false) xs → count_by q xs ≡ 0
count_by-none q [] h = refl
count_by-none q (x ∷ xs) h =
    let here : ◌≡◌ {A = ℕ} (cond (q x) 1 0) 0 = rw (All-head (λ y. q y ≡ false) x xs h) refl in
    omega (arith, count_by-cons q x xs, count_by-none q xs (All-tail (λ y. q y ≡ false) x xs h))

pub count_by-same : {X : Type 0} (p q : X → Bool) (xs : List X) → All (λ x. p x ≡ q x) xs → count_by p xs ≡ count_by q xs
count_by-same p q [] h = refl
count_by-same p q (x ∷ xs) h =
    let here : ◌≡◌ {A = ℕ} (cond (p x) 1 0) (cond (q x) 1 0) = ap (λ b. cond b 1 0) (All-head (λ y. p y ≡ q y) x xs h) in
    omega (arith, count_by-cons p x xs, count_by-cons q x xs, count_by-same p q xs (All-tail (λ y. p y ≡ q y) x xs h))

-- a test that passes wherever one of two does
either_cases : (b c d : Bool) → d ≡ (b || c) → ◌≤◌ (cond d 1 0) (cond b 1 0 + cond c 1 0)
either_cases true c d e = rw e (omega arith)
either_cases false c d e = rw e (omega arith)

pub count_by-either : {X : Type 0} (p q r : X → Bool) (xs : List X) → All (λ x. r x ≡ (p x || q x)) xs → count_by r xs ≤ count_by p xs + count_by q xs
count_by-either p q r [] h = omega arith
count_by-either p q r (x ∷ xs) h =
    let here : ◌≤◌ (cond (r x) 1 0) (cond (p x) 1 0 + cond (q x) 1 0) = either_cases (p x) (q x) (r x) (All-head (λ y. r y ≡ (p y || q y)) x xs h) in
    omega (arith, count_by-cons p x xs, count_by-cons q x xs, count_by-cons r x xs, count_by-either p q r xs (All-tail (λ y. r y ≡ (p y || q y)) x xs h))

implied_cases : (b c : Bool) → (b ≡ true → c ≡ true) → ◌≤◌ (cond b 1 0) (cond c 1 0)
implied_cases true c h = rw (h refl) (omega arith)
implied_cases false c h = omega arith

pub count_by-weaker : {X : Type 0} (p q : X → Bool) (xs : List X) → All (λ x. p x ≡ true → q x ≡ true) xs → count_by p xs ≤ count_by q xs
count_by-weaker p q [] h = omega arith
count_by-weaker p q (x ∷ xs) h =
    let here : ◌≤◌ (cond (p x) 1 0) (cond (q x) 1 0) = implied_cases (p x) (q x) (All-head (λ y. p y ≡ true → q y ≡ true) x xs h) in
    omega (arith, count_by-cons p x xs, count_by-cons q x xs, count_by-weaker p q xs (All-tail (λ y. p y ≡ true → q y ≡ true) x xs h))

-- what a filter keeps, and of that what passes
kept_cases : {X : Type 0} (b : Bool) (q : X → Bool) (x : X) (xs : List X) → count_by q (cond b (x ∷ xs) xs) ≡ cond (b && q x) 1 0 + count_by q xs
kept_cases true q x xs = count_by-cons q x xs
kept_cases false q x xs = omega arith

pub count_by-filter : {X : Type 0} (p q : X → Bool) (xs : List X) → count_by q (filter p xs) ≡ count_by (λ x. p x && q x) xs
count_by-filter p q [] = refl
count_by-filter p q (x ∷ xs) = omega (arith, kept_cases (p x) q x (filter p xs), count_by-filter p q xs, count_by-cons (λ y. p y && q y) x xs)

-- where none passes, each fails
pub none-by-count : {X : Type 0} (q : X → Bool) (xs : List X) → count_by q xs ≡ 0 → All (λ x. q x ≡ false) xs
none-by-count q [] e = All-nil (λ x. q x ≡ false)
none-by-count q (x ∷ xs) e =
    elim (q x) as (λ b. q x ≡ b → All (λ y. q y ≡ false) (x ∷ xs)) [
      | true ↦ λ is. let one : ◌≡◌ {A = ℕ} (cond (q x) 1 0) 1 = rw is refl in absurd (omega (arith, count_by-cons q x xs))
      | false ↦ λ is. let none : ◌≡◌ {A = ℕ} (cond (q x) 1 0) 0 = rw is refl in All-cons (λ y. q y ≡ false) x xs is (none-by-count q xs (omega (arith, count_by-cons q x xs)))
    ] refl

any_of_none : {X : Type 0} (q t : X → Bool) (xs : List X) → All (λ x. q x ≡ false) xs → list_any (λ x. q x && t x) xs ≡ false
any_of_none q t [] h = refl
any_of_none q t (x ∷ xs) h = rw (All-head (λ y. q y ≡ false) x xs h, any_of_none q t xs (All-tail (λ y. q y ≡ false) x xs h)) refl

or_false : (b : Bool) → (b || false) ≡ true → b ≡ true
or_false true e = refl
or_false false e = e

-- where at most one passes and some one passes a further test, each that passes does
pub all_where_one : {X : Type 0} (q t : X → Bool) (xs : List X) → count_by q xs ≤ 1 → list_any (λ x. q x && t x) xs ≡ true → All (λ x. q x ≡ true → t x ≡ true) xs
all_where_one q t [] le some = absurd cc
all_where_one q t (x ∷ xs) le some =
    elim (q x) as (λ b. q x ≡ b → All (λ y. q y ≡ true → t y ≡ true) (x ∷ xs)) [
      | true ↦ λ is.
          let one : ◌≡◌ {A = ℕ} (cond (q x) 1 0) 1 = rw is refl in
          let none : All (λ y. q y ≡ false) xs = none-by-count q xs (omega (arith, count_by-cons q x xs)) in
          let here : (q x && t x) ≡ true = or_false (q x && t x) (rw (any_of_none q t xs none) at some) in
          All-cons (λ y. q y ≡ true → t y ≡ true) x xs (λ _. (and_parts (q x) (t x) here).1) (λ k d lt passes. let fails = none k d lt in absurd cc)
      | false ↦ λ is.
          let rest : list_any (λ y. q y && t y) xs ≡ true = rw is at some in
          All-cons (λ y. q y ≡ true → t y ≡ true) x xs (λ passes. absurd cc) (all_where_one q t xs (omega (arith, count_by-cons q x xs)) rest)
    ] refl

-- a count over what a list's elements become
pub count-map : {X Y : Type 0} (test : Y → Bool) (f : X → Y) (xs : List X) → count_by test (map f xs) ≡ count_by (λ x. test (f x)) xs
count-map test f [] = refl
count-map test f (x ∷ xs) = omega (arith, count-map test f xs, sum_by-cons (λ y. cond (test y) 1 0) (f x) (map f xs), sum_by-cons (λ y. cond (test (f y)) 1 0) x xs)
