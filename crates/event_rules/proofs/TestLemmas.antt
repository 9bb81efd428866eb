-- tests on the elements of lists
use Rattle.std.proofs.Common.{inl, inr, ◌≡◌, Bool, true, false, List, [], ◌∷◌, refl, cond, sym, ap, ◌∙◌, Some, not, ◌&&◌, ◌||◌, find, filter}
use Rattle.std.specs.List.{list_all, list_any}
use Rattle.std.proofs.lemmas.Bool.{and_parts, and_from, or_left, or_right, or_cases}

-- two tests that hold together are equal
pub same_tests : (x y : Bool) → (x ≡ true → y ≡ true) → (y ≡ true → x ≡ true) → x ≡ y
same_tests true y f g = sym (f refl)
same_tests false true f g = g refl
same_tests false false f g = refl

-- a test that passes wherever another does passes of each, or of some, element where that one does
pub list_all-weaker : {X : Type 0} → (p q : X → Bool) (xs : List X) → ((x : X) → p x ≡ true → q x ≡ true) → list_all p xs ≡ true → list_all q xs ≡ true
list_all-weaker p q [] f h = refl
list_all-weaker p q (x ∷ xs) f h =
    let parts = and_parts (p x) (list_all p xs) h in
    and_from _ _ (f x parts.0) (list_all-weaker p q xs f parts.1)

pub list_any-weaker : {X : Type 0} → (p q : X → Bool) (xs : List X) → ((x : X) → p x ≡ true → q x ≡ true) → list_any p xs ≡ true → list_any q xs ≡ true
list_any-weaker p q [] f h = h
list_any-weaker p q (x ∷ xs) f h = elim (or_cases (p x) (list_any p xs) h) [
  | inl e ↦ or_left (q x) (list_any q xs) (f x e)
  | inr e ↦ or_right (q x) (list_any q xs) (list_any-weaker p q xs f e)
]

-- what each element of a list passes, each that a filter keeps does
pub list_all-filtered : {X : Type 0} → (p q : X → Bool) (xs : List X) → list_all q xs ≡ true → list_all q (filter p xs) ≡ true
list_all-filtered p q [] h = refl
list_all-filtered p q (x ∷ xs) h =
    let parts = and_parts (q x) (list_all q xs) h in
    elim (p x) as (λ b. list_all q (cond b (x ∷ filter p xs) (filter p xs)) ≡ true) [
      | true ↦ and_from _ _ parts.0 (list_all-filtered p q xs parts.1)
      | false ↦ list_all-filtered p q xs parts.1
    ]

-- equal tests pass of the same elements
pub list_any-same : {X : Type 0} → (p q : X → Bool) (xs : List X) → ((x : X) → p x ≡ q x) → list_any p xs ≡ list_any q xs
list_any-same p q [] f = refl
list_any-same p q (x ∷ xs) f = rw (f x, list_any-same p q xs f) refl

-- no element fails a test that all pass
pub list_any-fails : {X : Type 0} → (p : X → Bool) (xs : List X) → list_all p xs ≡ true → list_any (λ x. not (p x)) xs ≡ false
list_any-fails p [] h = refl
list_any-fails p (x ∷ xs) h =
    let parts = and_parts (p x) (list_all p xs) h in
    rw parts.0 (list_any-fails p xs parts.1)

-- some element of a filtered list passes a test where some element passes both
pub list_any-filter : {X : Type 0} → (p q : X → Bool) (xs : List X) → list_any q (filter p xs) ≡ list_any (λ x. p x && q x) xs
list_any-filter p q [] = refl
list_any-filter p q (x ∷ xs) =
    elim (p x) as (λ b. list_any q (cond b (x ∷ filter p xs) (filter p xs)) ≡ ((b && q x) || list_any (λ y. p y && q y) xs)) [
      | true ↦ ap (λ b. q x || b) (list_any-filter p q xs)
      | false ↦ list_any-filter p q xs
    ]

-- each element of a filtered list passes its test
pub list_all-filter : {X : Type 0} → (p : X → Bool) (xs : List X) → list_all p (filter p xs) ≡ true
list_all-filter p [] = refl
list_all-filter p (x ∷ xs) =
    elim (p x) as (λ b. p x ≡ b → list_all p (cond b (x ∷ filter p xs) (filter p xs)) ≡ true) [
      | true ↦ λ e. and_from _ _ e (list_all-filter p xs)
      | false ↦ λ _. list_all-filter p xs
    ] refl

-- the element is in the list: where it passes a test, some element does
pub record IsIn {X : Type 0} (x : X) (xs : List X) : Type 0 where
  pub passes : (p : X → Bool) → p x ≡ true → list_any p xs ≡ true

pub in_first : {X : Type 0} → (x : X) (xs : List X) → IsIn x (x ∷ xs)
in_first x xs = record { passes = λ p h. rw h refl }

pub in_rest : {X : Type 0} → (x y : X) (xs : List X) → IsIn x xs → IsIn x (y ∷ xs)
in_rest x y xs i = record { passes = λ p h. or_right (p y) (list_any p xs) (i.passes p h) }

-- it passes what each element passes
pub passes-all : {X : Type 0} → (x : X) (xs : List X) (p : X → Bool) → IsIn x xs → list_all p xs ≡ true → p x ≡ true
passes-all x xs p i h = elim (p x) as (λ b. p x ≡ b → b ≡ true) [
  | true ↦ λ _. refl
  | false ↦ λ e. sym (list_any-fails p xs h) ∙ i.passes (λ y. not (p y)) (rw e refl)
] refl

-- some element passes two tests where one passes the first and all the second
pub list_any-with : {X : Type 0} → (p q r : X → Bool) (xs : List X) → ((x : X) → p x ≡ true → q x ≡ true → r x ≡ true) → list_any p xs ≡ true → list_all q xs ≡ true → list_any r xs ≡ true
list_any-with p q r [] f h g = h
list_any-with p q r (x ∷ xs) f h g =
    let parts = and_parts (q x) (list_all q xs) g in
    elim (or_cases (p x) (list_any p xs) h) [
      | inl e ↦ or_left (r x) (list_any r xs) (f x e parts.0)
      | inr e ↦ or_right (r x) (list_any r xs) (list_any-with p q r xs f e parts.1)
    ]

-- what is found is in the list and passes the test
pub in_found : {X : Type 0} → (p : X → Bool) (xs : List X) (x : X) → find p xs ≡ Some x → IsIn x xs × (p x ≡ true)
in_found p [] x h = absurd cc
in_found p (y ∷ ys) x h =
    elim (p y) as (λ b. p y ≡ b → cond b (Some y) (find p ys) ≡ Some x → IsIn x (y ∷ ys) × (p x ≡ true)) [
      | true ↦ λ e g. let same : y ≡ x = cc in rw (← same) (in_first y ys, e)
      | false ↦ λ e g. let rest = in_found p ys x g in (in_rest x y ys rest.0, rest.1)
    ] refl h

-- what is in a filtered list is in the list
pub in_filter : {X : Type 0} → (p : X → Bool) (xs : List X) (x : X) → IsIn x (filter p xs) → IsIn x xs
in_filter p xs x i = record {
  passes = λ q h. list_any-weaker (λ y. p y && q y) q xs (λ y e. (and_parts (p y) (q y) e).1) (sym (list_any-filter p q xs) ∙ i.passes q h);
}
