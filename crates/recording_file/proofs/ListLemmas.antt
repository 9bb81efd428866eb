-- what is found in a list, and what holds of a list's elements
use Rattle.std.proofs.Common.{◌≡◌, ℕ, zero, suc, ◌+◌, ◌<◌, ◌≤◌, Bool, true, false, cond, List, [], ◌∷◌, ◌++◌, map, refl, ap, ◌∙◌, arith, inl, inr, Some, None, filter, find, All}
use Rattle.std.specs.List.{range_with_len, flat_map}
use Rattle.std.proofs.lemmas.Bool.{cases_eq}
use Rattle.std.proofs.lemmas.List.Elements.{All-nil, All-cons, All-head, All-tail, All-append}

-- where none is found, each fails
pub none_passes : {X : Type 0} (t : X → Bool) (xs : List X) → find t xs ≡ None → All (λ x. t x ≡ false) xs
none_passes t [] e = All-nil (λ x. t x ≡ false)
none_passes t (x ∷ xs) e = elim (t x) as (λ b. t x ≡ b → cond b (Some x) (find t xs) ≡ None → All (λ y. t y ≡ false) (x ∷ xs)) [
  | true ↦ λ is g. absurd cc
  | false ↦ λ is g. All-cons (λ y. t y ≡ false) x xs is (none_passes t xs g)
] refl e

-- what holds of all holds of the one that is found, which passes
pub found_holds : {X : Type 0} (P : X → Type 0) (t : X → Bool) (xs : List X) (x : X) → All P xs → find t xs ≡ Some x → P x × (t x ≡ true)
found_holds P t [] x h e = absurd cc
found_holds P t (y ∷ xs) x h e = elim (t y) as (λ b. t y ≡ b → cond b (Some y) (find t xs) ≡ Some x → P x × (t x ≡ true)) [
  | true ↦ λ is g. let same : y ≡ x = cc in (rw (← same) (All-head P y xs h), rw (← same) is)
  | false ↦ λ is g. found_holds P t xs x (All-tail P y xs h) g
] refl e

-- what holds of all elements of the lists that elements become
pub each_of_flat : {X Y : Type 0} (P : Y → Type 0) (f : X → List Y) (xs : List X) → All P (flat_map f xs) → All (λ x. All P (f x)) xs
each_of_flat P f [] h = All-nil (λ x. All P (f x))
each_of_flat P f (x ∷ xs) h =
    let parts = split P (f x) (flat_map f xs) h in
    All-cons (λ y. All P (f y)) x xs parts.0 (each_of_flat P f xs parts.1)
  where
    split : {Y : Type 0} (P : Y → Type 0) (ys zs : List Y) → All P (ys ++ zs) → All P ys × All P zs
    split P [] zs h = (All-nil P, h)
    split P (y ∷ ys) zs h =
        let rest = split P ys zs (All-tail P y (ys ++ zs) h) in
        (All-cons P y ys (All-head P y (ys ++ zs) h) rest.0, rest.1)

pub all_of_flat : {X Y : Type 0} (P : Y → Type 0) (f : X → List Y) (xs : List X) → All (λ x. All P (f x)) xs → All P (flat_map f xs)
all_of_flat P f [] h = All-nil P
all_of_flat P f (x ∷ xs) h = All-append P (f x) (flat_map f xs) (All-head (λ y. All P (f y)) x xs h) (all_of_flat P f xs (All-tail (λ y. All P (f y)) x xs h))

-- what holds of all that elements become
pub each_of_map : {X Y : Type 0} (P : Y → Type 0) (f : X → Y) (xs : List X) → All P (map f xs) → All (λ x. P (f x)) xs
each_of_map P f [] h = All-nil (λ x. P (f x))
each_of_map P f (x ∷ xs) h = All-cons (λ y. P (f y)) x xs (All-head P (f x) (map f xs) h) (each_of_map P f xs (All-tail P (f x) (map f xs) h))

-- what holds of all that a filter keeps
pub each_of_filter : {X : Type 0} (t : X → Bool) (P : X → Type 0) (xs : List X) → All P (filter t xs) → All (λ x. t x ≡ true → P x) xs
each_of_filter t P [] h = All-nil (λ x. t x ≡ true → P x)
each_of_filter t P (x ∷ xs) h = elim (t x) as (λ b. t x ≡ b → All P (cond b (x ∷ filter t xs) (filter t xs)) → All (λ y. t y ≡ true → P y) (x ∷ xs)) [
  | true ↦ λ is g. All-cons (λ y. t y ≡ true → P y) x xs (λ _. All-head P x (filter t xs) g) (each_of_filter t P xs (All-tail P x (filter t xs) g))
  | false ↦ λ is g. All-cons (λ y. t y ≡ true → P y) x xs (λ passes. absurd cc) (each_of_filter t P xs g)
] refl h

pub all_of_filter : {X : Type 0} (t : X → Bool) (P : X → Type 0) (xs : List X) → All (λ x. t x ≡ true → P x) xs → All P (filter t xs)
all_of_filter t P [] h = All-nil P
all_of_filter t P (x ∷ xs) h = elim (t x) as (λ b. t x ≡ b → All P (cond b (x ∷ filter t xs) (filter t xs))) [
  | true ↦ λ is. All-cons P x (filter t xs) (All-head (λ y. t y ≡ true → P y) x xs h is) (all_of_filter t P xs (All-tail (λ y. t y ≡ true → P y) x xs h))
  | false ↦ λ is. all_of_filter t P xs (All-tail (λ y. t y ≡ true → P y) x xs h)
] refl

-- what holds of all numbers of a range
pub each_of_range : (P : ℕ → Type 0) (a n : ℕ) → All P (range_with_len a n) → (q : ℕ) → a ≤ q → q < a + n → P q
each_of_range P a zero h q le lt = absurd (omega arith)
each_of_range P a (suc n) h q le lt = elim (cases_eq a q) [
  | inl same ↦ rw (← same) (All-head P a (range_with_len (a + 1) n) h)
  | inr other ↦ each_of_range P (a + 1) n (All-tail P a (range_with_len (a + 1) n) h) q (let ne = other in omega arith) (omega arith)
]

pub all_of_range : (P : ℕ → Type 0) (a n : ℕ) → ((q : ℕ) → a ≤ q → q < a + n → P q) → All P (range_with_len a n)
all_of_range P a zero h = All-nil P
all_of_range P a (suc n) h = All-cons P a (range_with_len (a + 1) n) (h a (omega arith) (omega arith)) (all_of_range P (a + 1) n (λ q le lt. h q (omega arith) (omega arith)))

-- a range of one number more
last_of_range : (a n : ℕ) → range_with_len a (suc n) ≡ range_with_len a n ++ (a + n) ∷ []
last_of_range a zero = let same : a ≡ a + zero = omega arith in ap (λ k. k ∷ []) same
last_of_range a (suc n) = let at : a + 1 + n ≡ a + suc n = omega arith in ap (λ xs. a ∷ xs) (last_of_range (a + 1) n ∙ ap (λ k. range_with_len (a + 1) n ++ k ∷ []) at)

pub range_more : (a n : ℕ) → range_with_len a (n + 1) ≡ range_with_len a n ++ (a + n) ∷ []
range_more a n = let on : n + 1 ≡ suc n = omega arith in ap (range_with_len a) on ∙ last_of_range a n

-- what is found in a range is found in a longer one
pub found_longer : (t : ℕ → Bool) (a n m r : ℕ) → n ≤ m → find t (range_with_len a n) ≡ Some r → find t (range_with_len a m) ≡ Some r
found_longer t a zero m r le e = absurd cc
found_longer t a (suc n) zero r le e = absurd (omega arith)
found_longer t a (suc n) (suc m) r le e = elim (t a) as (λ b. cond b (Some a) (find t (range_with_len (a + 1) n)) ≡ Some r → cond b (Some a) (find t (range_with_len (a + 1) m)) ≡ Some r) [
  | true ↦ λ g. g
  | false ↦ λ g. found_longer t (a + 1) n m r (omega arith) g
] e
