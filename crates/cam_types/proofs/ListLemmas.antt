use Rattle.std.proofs.Common.{◌≡◌, Bool, true, ℕ, ◌+◌, ◌<◌, ◌≤◌, List, [], ◌∷◌, ◌++◌, length, refl, ap, ◌∙◌, arith, append_assoc, append-nil, length-append, Option, Some, None}
use Rattle.std.specs.Option.{option_or}
use Rattle.std.proofs.lemmas.Bool.{and_parts}
use lib.Pointwise.{pointwise}
use Rattle.cam_types.specs.Lists.{prefixed, prefixed_after, first_answer}

-- one element more, and what stands before it
pub prefixed_after-push : {X : Type 0} → (before xs : List X) (x : X) → prefixed_after before (xs ++ x ∷ []) ≡ prefixed_after before xs ++ (before ++ xs, x) ∷ []
prefixed_after-push before [] x = simp append-nil refl
prefixed_after-push before (y ∷ ys) x =
    ap (λ ms. (before, y) ∷ ms) (prefixed_after-push (before ++ y ∷ []) ys x ∙ simp append_assoc refl)

pub prefixed-push : {X : Type 0} → (xs : List X) (x : X) → prefixed (xs ++ x ∷ []) ≡ prefixed xs ++ (xs, x) ∷ []
prefixed-push xs x = prefixed_after-push [] xs x

-- the first answer over two lists is that of the first, or else that of the second
pub first_answer-append : {X F : Type 0} → (f : X → Option F) (xs ys : List X) → first_answer f (xs ++ ys) ≡ option_or (first_answer f xs) (first_answer f ys)
first_answer-append f [] ys = refl
first_answer-append f (x ∷ xs) ys = elim (f x) as (λ o. option_or o (first_answer f (xs ++ ys)) ≡ option_or (option_or o (first_answer f xs)) (first_answer f ys)) [
  | None ↦ first_answer-append f xs ys
  | Some z ↦ refl
]

-- where no element has an answer so far and one more has none, there is none
pub first_answer-push : {X F : Type 0} → (f : List X × X → Option F) (xs : List X) (x : X) → first_answer f (prefixed xs) ≡ None → f (xs, x) ≡ None → first_answer f (prefixed (xs ++ x ∷ [])) ≡ None
first_answer-push f xs x none here = rw (prefixed-push, first_answer-append) (rw (none, here) refl)

pub or_left : {F : Type 0} → (o p : Option F) → option_or o p ≡ None → o ≡ None
or_left None p e = refl
or_left (Some x) p e = e

pub or_right : {F : Type 0} → (o p : Option F) → option_or o p ≡ None → p ≡ None
or_right None p e = e
or_right (Some x) p e = absurd (cc)

-- where an answer comes at the latest after n elements and there is none, there are at most n
few_after : {X F : Type 0} → (f : List X × X → Option F) (n : ℕ) → ((before : List X) (x : X) → f (before, x) ≡ None → length before < n) →
    (before xs : List X) → length before ≤ n → first_answer f (prefixed_after before xs) ≡ None → length before + length xs ≤ n
few_after f n h before [] le none = omega arith
few_after f n h before (x ∷ xs) le none =
    let here : f (before, x) ≡ None = or_left (f (before, x)) _ none in
    let lt : length before < n = h before x here in
    omega (arith, length-append before (x ∷ []), few_after f n h (before ++ x ∷ []) xs (omega (arith, length-append before (x ∷ []))) (or_right (f (before, x)) _ none))

pub few_where_none : {X F : Type 0} → (f : List X × X → Option F) (n : ℕ) → ((before : List X) (x : X) → f (before, x) ≡ None → length before < n) →
    (xs : List X) → first_answer f (prefixed xs) ≡ None → length xs ≤ n
few_where_none f n h xs none = omega (arith, few_after f n h [] xs (omega arith) none)

-- lists that are equal place by place are equal
pub same_lists : {X : Type 0} → (e : X → X → Bool) (xs ys : List X) → ((x y : X) → e x y ≡ true → x ≡ y) → pointwise e xs ys ≡ true → xs ≡ ys
same_lists e [] [] decides h = refl
same_lists e [] (y ∷ ys) decides h = absurd cc
same_lists e (x ∷ xs) [] decides h = absurd cc
same_lists e (x ∷ xs) (y ∷ ys) decides h =
    let parts = and_parts (e x y) (pointwise e xs ys) h in
    ap (λ z. z ∷ xs) (decides x y parts.0) ∙ ap (λ zs. y ∷ zs) (same_lists e xs ys decides parts.1)
