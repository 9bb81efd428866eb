-- lists that are gone through, one element after the other
use Rattle.std.proofs.Common.{◌≡◌, ℕ, ◌+◌, ◌^◌, ◌<◌, ◌≤◌, Fits, w64, Bool, true, false, cond, List, [], ◌∷◌, ◌++◌, length, map, filter, get_or, take, refl, sym, ap, ◌∙◌, arith, inl, inr, Option, Some, None, length-append, unwrap_or, is_some}
use Rattle.std.specs.List.{filter_map, cons_option, sum, count_by, All}
use Rattle.std.proofs.lemmas.List.{take_more, map_more, get_or_default}
use Rattle.std.proofs.lemmas.List.Elements.{filter_map-append, All-nil, All-cons, All-head, All-tail}
use Rattle.std.proofs.lemmas.Bool.{cases_lt}
use Rattle.std.proofs.lemmas.List.Sums.{sum_by-append, sum_by-cons}
use Rattle.slots.specs.Flights.{greatest}

-- what one element more adds to the numbers that some elements have
sum_of_one : (o : Option ℕ) → sum (cons_option o []) ≡ unwrap_or o 0
sum_of_one None = refl
sum_of_one (Some n) = omega arith

length_of_one : (o : Option ℕ) → length (cons_option o []) ≡ cond (is_some o) 1 0
length_of_one None = refl
length_of_one (Some n) = refl

pub sum_more : {X : Type 0} (h : X → Option ℕ) (xs : List X) (i : ℕ) (d : X) → i < length xs → sum (filter_map h (take (i + 1) xs)) ≡ sum (filter_map h (take i xs)) + unwrap_or (h (get_or xs i d)) 0
sum_more h xs i d lt = ap (λ ys. sum (filter_map h ys)) (take_more xs i d lt) ∙ ap sum (filter_map-append h (take i xs) (get_or xs i d ∷ [])) ∙ sum_by-append (λ n. n) (filter_map h (take i xs)) (cons_option (h (get_or xs i d)) []) ∙ ap (λ n. sum (filter_map h (take i xs)) + n) (sum_of_one (h (get_or xs i d)))

pub length_more : {X : Type 0} (h : X → Option ℕ) (xs : List X) (i : ℕ) (d : X) → i < length xs → length (filter_map h (take (i + 1) xs)) ≡ length (filter_map h (take i xs)) + cond (is_some (h (get_or xs i d))) 1 0
length_more h xs i d lt = ap (λ ys. length (filter_map h ys)) (take_more xs i d lt) ∙ ap length (filter_map-append h (take i xs) (get_or xs i d ∷ [])) ∙ length-append (filter_map h (take i xs)) (cons_option (h (get_or xs i d)) []) ∙ ap (λ n. length (filter_map h (take i xs)) + n) (length_of_one (h (get_or xs i d)))

-- what is made of the elements that pass a test
pub kept_all : {X Y : Type 0} (p : X → Bool) (h : X → Option Y) (xs : List X) → filter_map h (filter p xs) ≡ filter_map (λ x. cond (p x) (h x) None) xs
kept_all p h [] = refl
kept_all p h (x ∷ xs) = elim (p x) as (λ b. filter_map h (cond b (x ∷ filter p xs) (filter p xs)) ≡ cons_option (cond b (h x) None) (filter_map (λ x. cond (p x) (h x) None) xs)) [
  | true ↦ ap (cons_option (h x)) (kept_all p h xs)
  | false ↦ kept_all p h xs
]

pub one_at_most : (b : Bool) → cond b 1 0 ≤ 1
one_at_most true = omega arith
one_at_most false = omega arith

-- the sum and the number of what is made of the elements, one element on
pub sum_step : {X : Type 0} (h : X → Option ℕ) (xs : List X) (i : ℕ) (d : X) (o : Option ℕ) (s t : ℕ) → i < length xs → o ≡ h (get_or xs i d) → s ≡ sum (filter_map h (take i xs)) → t ≡ s + unwrap_or o 0 → t ≡ sum (filter_map h (take (i + 1) xs))
sum_step h xs i d o s t lt is before after = after ∙ ap (λ n. n + unwrap_or o 0) before ∙ ap (λ v. sum (filter_map h (take i xs)) + unwrap_or v 0) is ∙ sym (sum_more h xs i d lt)

pub length_step : {X : Type 0} (h : X → Option ℕ) (xs : List X) (i : ℕ) (d : X) (o : Option ℕ) (s t : ℕ) → i < length xs → o ≡ h (get_or xs i d) → s ≡ length (filter_map h (take i xs)) → t ≡ s + cond (is_some o) 1 0 → t ≡ length (filter_map h (take (i + 1) xs))
length_step h xs i d o s t lt is before after = after ∙ ap (λ n. n + cond (is_some o) 1 0) before ∙ ap (λ v. length (filter_map h (take i xs)) + cond (is_some v) 1 0) is ∙ sym (length_more h xs i d lt)

-- a list that is made element by element, one element on
pub map_step : {X Y : Type 0} (f : X → Y) (xs : List X) (i : ℕ) (d : X) (y : Y) (ys zs : List Y) → i < length xs → ys ≡ map f (take i xs) → zs ≡ ys ++ y ∷ [] → y ≡ f (get_or xs i d) → zs ≡ map f (take (i + 1) xs)
map_step f xs i d y ys zs lt before after is = after ∙ ap (λ vs. vs ++ y ∷ []) before ∙ ap (λ v. map f (take i xs) ++ v ∷ []) is ∙ sym (map_more f xs i d lt)

-- each number is at most the greatest
pub each_within : {X : Type 0} (f : X → ℕ) (xs : List X) → All (λ x. f x ≤ greatest (map f xs)) xs
each_within f xs = below f xs (greatest (map f xs)) (omega arith)
  where
    below : {X : Type 0} (f : X → ℕ) (xs : List X) (m : ℕ) → greatest (map f xs) ≤ m → All (λ x. f x ≤ m) xs
    below f [] m le = All-nil (λ x. f x ≤ m)
    below f (x ∷ xs) m le = All-cons (λ y. f y ≤ m) x xs (omega arith) (below f xs m (omega arith))

-- and one of them is the greatest
pub some_greatest : {X : Type 0} (f : X → ℕ) (x : X) (xs : List X) → (y : X) × (f y ≡ greatest (map f (x ∷ xs)))
some_greatest f x [] = (x, omega arith)
some_greatest f x (y ∷ ys) =
    let rest = some_greatest f y ys in
    elim (cases_lt (f x) (greatest (map f (y ∷ ys)))) [
      | inl lower ↦ (rest.0, let is = rest.1 in omega arith)
      | inr higher ↦ (x, omega arith)
    ]

-- more elements pass a weaker test
pub count_le : {X : Type 0} (p q : X → Bool) (xs : List X) → All (λ x. p x ≡ true → q x ≡ true) xs → count_by p xs ≤ count_by q xs
count_le p q [] h = omega arith
count_le p q (x ∷ xs) h =
    let rest = count_le p q xs (All-tail (λ y. p y ≡ true → q y ≡ true) x xs h) in
    let head = All-head (λ y. p y ≡ true → q y ≡ true) x xs h in
    let a = sum_by-cons (λ y. cond (p y) 1 0) x xs in
    let b = sum_by-cons (λ y. cond (q y) 1 0) x xs in
    let one : cond (p x) 1 0 ≤ cond (q x) 1 0 = elim (p x) as (λ v. (v ≡ true → q x ≡ true) → cond v 1 0 ≤ cond (q x) 1 0) [
      | true ↦ λ so. rw (so refl) (omega arith)
      | false ↦ λ _. omega arith
    ] head in
    omega (arith, a, b, rest, one)

-- numbers of 64 bits are below 2^64
pub all_fit : (xs : List ℕ) → ((i : ℕ) → Fits w64 (get_or xs i 0)) → All (λ t. t < 2 ^ 64) xs
all_fit xs h = λ k d lt. omega (arith, (h k).fits, get_or_default xs k d 0 lt)
