-- the least of a list of numbers
use Rattle.std.proofs.Common.{◌≡◌, ℕ, zero, suc, ◌+◌, ◌-◌, ◌<◌, ◌≤◌, Bool, true, false, cond, List, [], ◌∷◌, ◌++◌, refl, sym, ap, ◌∙◌, arith, inl, inr, Option, Some, None, append-nil, ◌==◌, ◌||◌, nat_le, if◌then◌else◌, map, filter, unwrap_or}
use Rattle.std.specs.List.{list_any, range_with_len}
use Rattle.std.proofs.lemmas.Bool.{or_cases, or_left, or_right, eqb-true, eq-eqb, cases_lt}
use Rattle.std.proofs.lemmas.Bool.Decides.{nat_tests}
use Rattle.std.proofs.lemmas.List.{map-append}
use Rattle.std.proofs.lemmas.List.Elements.{filter-append}
use Rattle.event_rules.proofs.ListFacts.{range_with_len-push}
use Rattle.round_net.specs.Sums.{least}
use Rattle.price_check.specs.Least.{cheaper}

-- the least, where there is a number
abbrev pub least_of : List ℕ → Option ℕ
least_of [] = None
least_of (x ∷ xs) = Some (least (x ∷ xs))

pub unwrap_or-least_of : (xs : List ℕ) → unwrap_or (least_of xs) 0 ≡ least xs
unwrap_or-least_of [] = refl
unwrap_or-least_of (x ∷ xs) = refl

lesser : ℕ → ℕ → ℕ
lesser x y = if nat_le x y then x else y

lesser-assoc : (x l y : ℕ) → lesser x (lesser l y) ≡ lesser (lesser x l) y
unfolding lesser
lesser-assoc x l y = grind (arith, nat_tests)

least-push : (x : ℕ) (xs : List ℕ) (y : ℕ) → least ((x ∷ xs) ++ y ∷ []) ≡ lesser (least (x ∷ xs)) y
unfolding lesser
least-push x [] y = refl
least-push x (z ∷ zs) y = ap (lesser x) (least-push z zs y) ∙ lesser-assoc x (least (z ∷ zs)) y

some_lesser : (x y : ℕ) → Some (lesser x y) ≡ cheaper (Some x) (Some y)
unfolding lesser
some_lesser x y = elim (nat_le x y) as (λ b. ◌≡◌ {A = Option ℕ} (Some (if b then x else y)) (if b then Some x else Some y)) [ true ↦ refl | false ↦ refl ]

least_of-push : (xs : List ℕ) (y : ℕ) → least_of (xs ++ y ∷ []) ≡ cheaper (least_of xs) (Some y)
least_of-push [] y = refl
least_of-push (x ∷ xs) y = ap (λ (n : ℕ). Some n) (least-push x xs y) ∙ some_lesser (least (x ∷ xs)) y

cheaper-none : (o : Option ℕ) → cheaper o None ≡ o
cheaper-none None = refl
cheaper-none (Some x) = refl

-- one number more, where it is there
pub least_of-more : (f : ℕ → ℕ) (p : ℕ → Bool) (xs : List ℕ) (y : ℕ) → least_of (map f (filter p (xs ++ y ∷ []))) ≡ cheaper (least_of (map f (filter p xs))) (cond (p y) (Some (f y)) None)
least_of-more f p xs y =
    rw (filter-append p xs (y ∷ [])) (elim (p y) as (λ b. least_of (map f (filter p xs ++ cond b (y ∷ []) [])) ≡ cheaper (least_of (map f (filter p xs))) (cond b (Some (f y)) None)) [
      | true ↦ rw (map-append f (filter p xs) (y ∷ [])) (least_of-push (map f (filter p xs)) (f y))
      | false ↦ rw (append-nil (filter p xs)) (sym (cheaper-none (least_of (map f (filter p xs)))))
    ])

-- a round more in a window
pub least_of-next : (f : ℕ → ℕ) (p : ℕ → Bool) (from round : ℕ) (so_far next offer : Option ℕ) → from ≤ round → so_far ≡ least_of (map f (filter p (range_with_len from (round - from)))) →
    offer ≡ cond (p round) (Some (f round)) None → next ≡ cheaper so_far offer → next ≡ least_of (map f (filter p (range_with_len from (round + 1 - from))))
least_of-next f p from round so_far next offer le is is' e =
    let more : round + 1 - from ≡ (round - from) + 1 = omega arith in
    let at : from + (round - from) ≡ round = omega arith in
    e ∙ rw (is, is', more, range_with_len-push from (round - from), at) (sym (least_of-more f p (range_with_len from (round - from)) round))

-- the least is at most each of them
lesser_left : (x l : ℕ) → lesser x l ≤ x
unfolding lesser
lesser_left x l = grind (arith, nat_tests)

lesser_right : (x l : ℕ) → lesser x l ≤ l
unfolding lesser
lesser_right x l = grind (arith, nat_tests)

one_of_one : (x k : ℕ) → ((x == k) || false) ≡ true → x ≤ k
one_of_one x k e = elim (or_cases (x == k) false e) [
  | inl e ↦ let at : x ≡ k = eqb-true x k e in omega arith
  | inr e ↦ absurd cc
]

pub least-le : (xs : List ℕ) (k : ℕ) → list_any (λ x. x == k) xs ≡ true → least xs ≤ k
unfolding lesser
least-le [] k e = absurd cc
least-le (x ∷ []) k e = one_of_one x k e
least-le (x ∷ y ∷ ys) k e = elim (or_cases (x == k) (list_any (λ z. z == k) (y ∷ ys)) e) [
  | inl e ↦ let at : x ≡ k = eqb-true x k e in let le : lesser x (least (y ∷ ys)) ≤ x = lesser_left x (least (y ∷ ys)) in omega arith
  | inr e ↦ let rest : least (y ∷ ys) ≤ k = least-le (y ∷ ys) k e in let le : lesser x (least (y ∷ ys)) ≤ least (y ∷ ys) = lesser_right x (least (y ∷ ys)) in omega arith
]

-- a round of a range that passes is among those that do
pub any_in_range : (f : ℕ → ℕ) (p : ℕ → Bool) (from n r : ℕ) → from ≤ r → r < from + n → p r ≡ true → list_any (λ x. x == f r) (map f (filter p (range_with_len from n))) ≡ true
any_in_range f p from zero r le lt passes = absurd (omega arith)
any_in_range f p from (suc n) r le lt passes = elim (cases_lt from r) [
  | inl before ↦
      let rest : list_any (λ x. x == f r) (map f (filter p (range_with_len (from + 1) n))) ≡ true = any_in_range f p (from + 1) n r (omega arith) (omega arith) passes in
      elim (p from) as (λ b. list_any (λ x. x == f r) (map f (cond b (from ∷ filter p (range_with_len (from + 1) n)) (filter p (range_with_len (from + 1) n)))) ≡ true) [
        | true ↦ or_right (f from == f r) _ rest
        | false ↦ rest
      ]
  | inr past ↦
      let at : from ≡ r = omega arith in
      rw (at, passes) (or_left _ _ (eq-eqb (f r) (f r) refl))
]

pub least-le_at : (f : ℕ → ℕ) (p : ℕ → Bool) (from n r : ℕ) → from ≤ r → r < from + n → p r ≡ true → least (map f (filter p (range_with_len from n))) ≤ f r
least-le_at f p from n r le lt passes = least-le (map f (filter p (range_with_len from n))) (f r) (any_in_range f p from n r le lt passes)

-- a number that is at most each of them, if there is one
abbrev IsBelow : ℕ → List ℕ → Type 0
IsBelow k [] = 0 ≤ 0
IsBelow k (x ∷ xs) = k ≤ least (x ∷ xs)

lesser_above : (k x l : ℕ) → k ≤ x → k ≤ l → k ≤ lesser x l
unfolding lesser
lesser_above k x l le le' = grind (arith, nat_tests)

below-cons : (k x : ℕ) (xs : List ℕ) → k ≤ x → IsBelow k xs → IsBelow k (x ∷ xs)
unfolding lesser
below-cons k x [] le below = le
below-cons k x (y ∷ ys) le below = lesser_above k x (least (y ∷ ys)) le below

below-range : (f : ℕ → ℕ) (p : ℕ → Bool) (k from n : ℕ) → ((r : ℕ) → from ≤ r → r < from + n → p r ≡ true → k ≤ f r) → IsBelow k (map f (filter p (range_with_len from n)))
below-range f p k from zero each = omega arith
below-range f p k from (suc n) each =
    let rest : IsBelow k (map f (filter p (range_with_len (from + 1) n))) = below-range f p k (from + 1) n (λ r le lt passes. each r (omega arith) (omega arith) passes) in
    elim (p from) as (λ b. p from ≡ b → IsBelow k (map f (cond b (from ∷ filter p (range_with_len (from + 1) n)) (filter p (range_with_len (from + 1) n))))) [
      | true ↦ λ e. below-cons k (f from) (map f (filter p (range_with_len (from + 1) n))) (each from (omega arith) (omega arith) e) rest
      | false ↦ λ e. rest
    ] refl

below-some : (k y : ℕ) (xs : List ℕ) → IsBelow k xs → list_any (λ x. x == y) xs ≡ true → k ≤ least xs
below-some k y [] below e = absurd cc
below-some k y (x ∷ xs) below e = below

pub le-least : (f : ℕ → ℕ) (p : ℕ → Bool) (k from n : ℕ) → ((r : ℕ) → from ≤ r → r < from + n → p r ≡ true → k ≤ f r) → (t : ℕ) → from ≤ t → t < from + n → p t ≡ true → k ≤ least (map f (filter p (range_with_len from n)))
le-least f p k from n each t le lt passes =
    below-some k (f t) (map f (filter p (range_with_len from n))) (below-range f p k from n each) (any_in_range f p from n t le lt passes)
