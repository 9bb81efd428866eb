-- lists that are filtered and mapped
use Rattle.std.proofs.Common.{◌≡◌, ℕ, ◌+◌, ◌-◌, ◌<◌, ◌&&◌, Bool, true, false, cond, List, [], ◌∷◌, ◌++◌, length, map, filter, get_or, refl, sym, ap, ◌∙◌, arith, inl, inr, subst}
use Rattle.std.specs.List.{count_by}
use Rattle.std.proofs.lemmas.Bool.{cases_lt}
use Rattle.std.proofs.lemmas.List.{get_or_append_left, get_or-append_right}
use Rattle.std.proofs.lemmas.List.Sums.{sum_by-cons}

-- a test that a function keeps
pub filter_through : {X : Type 0} (p : X → Bool) (f : X → X) → ((x : X) → p (f x) ≡ p x) → (xs : List X) → filter p (map f xs) ≡ map f (filter p xs)
filter_through p f same [] = refl
filter_through {X} p f same (x ∷ xs) =
    rw (same x, filter_through p f same xs) (elim (p x) as (λ b. cond b (f x ∷ map f (filter p xs)) (map f (filter p xs)) ≡ map f (cond b (x ∷ filter p xs) (filter p xs))) [ true ↦ refl | false ↦ refl ])

-- what passes the first test is what does so of those that pass a weaker one
pub filter_wider : {X : Type 0} (p g : X → Bool) → ((x : X) → p x ≡ true → g x ≡ true) → (xs : List X) → filter p (filter g xs) ≡ filter p xs
filter_wider p g wider [] = refl
filter_wider {X} p g wider (x ∷ xs) =
    let rest = filter_wider p g wider xs in
    elim (p x) as (λ b. p x ≡ b → filter p (cond (g x) (x ∷ filter g xs) (filter g xs)) ≡ cond b (x ∷ filter p xs) (filter p xs)) [
      | true ↦ λ is. rw (wider x is, is, rest) refl
      | false ↦ λ is. elim (g x) as (λ v. filter p (cond v (x ∷ filter g xs) (filter g xs)) ≡ filter p xs) [
        | true ↦ rw (is, rest) refl
        | false ↦ rest
      ]
    ] refl

-- a function that leaves what passes a test as it is
pub map_leaves : {X : Type 0} (p : X → Bool) (f : X → X) → ((x : X) → p x ≡ true → f x ≡ x) → (xs : List X) → map f (filter p xs) ≡ filter p xs
map_leaves p f leaves [] = refl
map_leaves {X} p f leaves (x ∷ xs) =
    let rest = map_leaves p f leaves xs in
    elim (p x) as (λ b. p x ≡ b → map f (cond b (x ∷ filter p xs) (filter p xs)) ≡ cond b (x ∷ filter p xs) (filter p xs)) [
      | true ↦ λ is. rw (leaves x is, rest) refl
      | false ↦ λ _. rest
    ] refl

-- two functions that agree on what passes a test
pub map_agree : {X Y : Type 0} (p : X → Bool) (f g : X → Y) → ((x : X) → p x ≡ true → f x ≡ g x) → (xs : List X) → map f (filter p xs) ≡ map g (filter p xs)
map_agree p f g agree [] = refl
map_agree {X} {Y} p f g agree (x ∷ xs) =
    let rest = map_agree p f g agree xs in
    elim (p x) as (λ b. p x ≡ b → map f (cond b (x ∷ filter p xs) (filter p xs)) ≡ map g (cond b (x ∷ filter p xs) (filter p xs))) [
      | true ↦ λ is. rw (agree x is, rest) refl
      | false ↦ λ _. rest
    ] refl

-- two functions, one after the other
pub map_both : {X Y Z : Type 0} (f : Y → Z) (g : X → Y) (xs : List X) → map f (map g xs) ≡ map (λ x. f (g x)) xs
map_both f g [] = refl
map_both f g (x ∷ xs) = ap (λ ys. f (g x) ∷ ys) (map_both f g xs)

-- three tests in turn, of which the first and the last are one
pub filter_three : {X : Type 0} (g d e p : X → Bool) → ((x : X) → (g x && e x) ≡ p x) → (xs : List X) → filter e (filter d (filter g xs)) ≡ filter p (filter d xs)
filter_three g d e p one [] = refl
filter_three {X} g d e p one (x ∷ xs) =
    let rest = filter_three g d e p one xs in
    elim (g x) as (λ b. g x ≡ b → filter e (filter d (cond b (x ∷ filter g xs) (filter g xs))) ≡ filter p (cond (d x) (x ∷ filter d xs) (filter d xs))) [
      | true ↦ λ is.
          let same : e x ≡ p x = ap (λ b. b && e x) (sym is) ∙ one x in
          elim (d x) as (λ b. filter e (cond b (x ∷ filter d (filter g xs)) (filter d (filter g xs))) ≡ filter p (cond b (x ∷ filter d xs) (filter d xs))) [
            | true ↦ rw (same, rest) refl
            | false ↦ rest
          ]
      | false ↦ λ is.
          let none : p x ≡ false = sym (one x) ∙ ap (λ b. b && e x) is in
          elim (d x) as (λ b. filter e (filter d (filter g xs)) ≡ filter p (cond b (x ∷ filter d xs) (filter d xs))) [
            | true ↦ rw (none, rest) refl
            | false ↦ rest
          ]
    ] refl

-- how many are of a kind, of what is made of those that pass a test
pub count_kept : {X Y : Type 0} (kind : Y → Bool) (f : X → Y) (p : X → Bool) (x : X) (xs : List X) → count_by kind (map f (filter p (x ∷ xs))) ≡ cond (p x && kind (f x)) 1 0 + count_by kind (map f (filter p xs))
count_kept {X} {Y} kind f p x xs = elim (p x) as (λ b. count_by kind (map f (cond b (x ∷ filter p xs) (filter p xs))) ≡ cond (b && kind (f x)) 1 0 + count_by kind (map f (filter p xs))) [
  | true ↦ sum_by-cons (λ y. cond (kind y) 1 0) (f x) (map f (filter p xs))
  | false ↦ omega arith
]

-- one element more of which something holds by its place
pub each_more : {X : Type 0} (P : ℕ → X → Type 0) (xs ys : List X) (n : ℕ) (x : X) → n ≡ length xs → ys ≡ xs ++ x ∷ [] → ((k : ℕ) (d : X) → k < n → P k (get_or xs k d)) → P n x → (k : ℕ) (d : X) → k < n + 1 → P k (get_or ys k d)
each_more {X} P xs ys n x size are before is k d lt = rw are (elim (cases_lt k n) [
  | inl earlier ↦
      let read : get_or (xs ++ x ∷ []) k d ≡ get_or xs k d = get_or_append_left xs (x ∷ []) d k (omega arith) in
      rw read (before k d earlier)
  | inr last ↦
      let here : n ≡ k = omega arith in
      let none : n - n ≡ 0 = omega arith in
      let read : get_or (xs ++ x ∷ []) n d ≡ x = get_or-append_right xs (x ∷ []) n n d (sym size) (omega arith) ∙ ap (λ i. get_or (x ∷ []) i d) none in
      subst (λ (j : ℕ). P j (get_or (xs ++ x ∷ []) j d)) here (rw read is)
])
