-- facts on lists that std lacks
use Rattle.std.proofs.Common.{◌≡◌, ◌≢◌, ℕ, zero, suc, ◌+◌, ◌<◌, ◌≤◌, Bool, true, false, List, [], ◌∷◌, ◌++◌, length, set, get_or, refl, sym, ap, ◌∙◌, arith, Option, Some, None, IfNone, inl, inr, Vec, Global, map, ◌⊎◌, take, slice_get}
use Rattle.std.specs.List.{list_all}
use Rattle.std.proofs.lemmas.Bool.{and_from, and_parts}
use Rattle.std.proofs.lemmas.List.Folds.{list_all-append}
use Rattle.std.proofs.lemmas.List.{get_or-map}

pub some_is : {X : Type 0} → (y x : X) → Some y ≡ Some x → y ≡ x
some_is y x e = cc

-- one more of the first elements
pub take_one : {X : Type 0} → (xs : List X) (i : ℕ) (x : X) → slice_get xs i ≡ Some x → (i < length xs) × (take (i + 1) xs ≡ take i xs ++ x ∷ [])
take_one [] i x h = absurd (cc)
take_one (y ∷ ys) zero x h = (omega arith, cc)
take_one (y ∷ ys) (suc i) x h =
    let rest = take_one ys i x h in
    let step : suc i + 1 ≡ suc (i + 1) = omega arith in
    (omega arith, ap (λ n. take n (y ∷ ys)) step ∙ ap (λ zs. y ∷ zs) rest.1)

-- what stands at a place of a list all of whose elements pass
pub all_at : {X : Type 0} → (p : X → Bool) (xs : List X) (i : ℕ) (x : X) → list_all p xs ≡ true → slice_get xs i ≡ Some x → p x ≡ true
all_at p [] i x h at = absurd (cc)
all_at p (y ∷ ys) zero x h at = ap p (sym (some_is y x at)) ∙ (and_parts (p y) (list_all p ys) h).0
all_at p (y ∷ ys) (suc i) x h at = all_at p ys i x (and_parts (p y) (list_all p ys) h).1 at

-- one that doesn't pass
pub not_all : {X : Type 0} → (p : X → Bool) (xs : List X) (i : ℕ) (x : X) → slice_get xs i ≡ Some x → p x ≡ false → list_all p xs ≡ false
not_all p xs i x at none = elim (list_all p xs) as (λ b. list_all p xs ≡ b → b ≡ false) [
  | true ↦ λ all. absurd (never (sym none ∙ all_at p xs i x all at))
  | false ↦ λ some. refl
] refl
  where
    never : false ≡ true → ⊥
    never e = absurd (cc)

pub there_is : {X : Type 0} → (xs : List X) (i : ℕ) (x : X) → slice_get xs i ≡ Some x → i < length xs
there_is [] i x h = absurd (cc)
there_is (y ∷ ys) zero x h = omega arith
there_is (y ∷ ys) (suc i) x h = omega (arith, there_is ys i x h)

-- what stands at a place of a list with one more
pub get_pushed : {X : Type 0} → (xs : List X) (x : X) (i : ℕ) (y : X) → slice_get (xs ++ x ∷ []) i ≡ Some y → (slice_get xs i ≡ Some y) ⊎ ((i ≡ length xs) × (y ≡ x))
get_pushed [] x zero y h = inr (refl, sym (some_is x y h))
get_pushed [] x (suc i) y h = absurd (cc)
get_pushed (z ∷ xs) x zero y h = inl h
get_pushed (z ∷ xs) x (suc i) y h = elim (get_pushed xs x i y h) [
  | inl at ↦ inl at
  | inr last ↦ inr (ap (λ n. suc n) last.0, last.1)
]

-- the first elements of a list with more after it
pub take_front : {X : Type 0} → (xs ys : List X) (n : ℕ) → n ≤ length xs → take n (xs ++ ys) ≡ take n xs
take_front xs ys zero le = refl
take_front [] ys (suc n) le = absurd (omega arith)
take_front (x ∷ xs) ys (suc n) le = ap (λ zs. x ∷ zs) (take_front xs ys n (omega arith))

pub take_whole : {X : Type 0} → (xs : List X) (n : ℕ) → length xs ≤ n → take n xs ≡ xs
take_whole (x ∷ xs) zero le = absurd (omega arith)
take_whole (x ∷ xs) (suc n) le = ap (λ zs. x ∷ zs) (take_whole xs n (omega arith))
take_whole [] zero le = refl
take_whole [] (suc n) le = refl

pub less_or_not : (j m : ℕ) → (j < m) ⊎ (m ≤ j)
less_or_not zero zero = inr (omega arith)
less_or_not zero (suc m) = inl (omega arith)
less_or_not (suc j) zero = inr (omega arith)
less_or_not (suc j) (suc m) = elim (less_or_not j m) [
  | inl less ↦ inl (omega arith)
  | inr rest ↦ inr (omega arith)
]

pub get_there : {X : Type 0} → (xs : List X) (i : ℕ) → i < length xs → (x : X) × (slice_get xs i ≡ Some x)
get_there [] i lt = absurd (omega arith)
get_there (y ∷ ys) zero lt = (y, refl)
get_there (y ∷ ys) (suc i) lt = get_there ys i (omega arith)

pub get_is : {X : Type 0} → (xs : List X) (i : ℕ) (x : X) → i < length xs → x ≡ get_or xs i x → slice_get xs i ≡ Some x
get_is [] i x lt is = absurd (omega arith)
get_is (y ∷ ys) zero x lt is = ap (λ z. Some z) (sym is)
get_is (y ∷ ys) (suc i) x lt is = get_is ys i x (omega arith) is

-- one more of the first elements that all pass
pub all_more : {X : Type 0} → (p : X → Bool) (xs : List X) (i : ℕ) (x : X) → i < length xs → x ≡ get_or xs i x → list_all p (take i xs) ≡ true → p x ≡ true → list_all p (take (i + 1) xs) ≡ true
all_more p xs i x lt is front one =
    ap (list_all p) (take_one xs i x (get_is xs i x lt is)).1 ∙ list_all-append p (take i xs) (x ∷ []) ∙ and_from _ _ front (and_from _ _ one refl)

-- what stands at a place of a list in which one element was put
pub get_in_set : {X : Type 0} → (xs : List X) (i k : ℕ) (y w : X) → slice_get (set xs i y) k ≡ Some w → ((k ≡ i) × (w ≡ y)) ⊎ ((k ≢ i) × (slice_get xs k ≡ Some w))
get_in_set [] i k y w h = absurd (cc)
get_in_set (x ∷ xs) zero zero y w h = inl (refl, cc)
get_in_set (x ∷ xs) zero (suc k) y w h = inr (λ e. omega arith, h)
get_in_set (x ∷ xs) (suc i) zero y w h = inr (λ e. omega arith, h)
get_in_set (x ∷ xs) (suc i) (suc k) y w h = elim (get_in_set xs i k y w h) [
  | inl at ↦ inl (ap (λ n. suc n) at.0, at.1)
  | inr other ↦ inr (λ e. other.0 (omega arith), other.1)
]

pub set_beside : {X : Type 0} → (xs : List X) (i k : ℕ) (y : X) → k ≢ i → slice_get (set xs i y) k ≡ slice_get xs k
set_beside [] i k y ne = refl
set_beside (x ∷ xs) zero zero y ne = absurd (ne refl)
set_beside (x ∷ xs) zero (suc k) y ne = refl
set_beside (x ∷ xs) (suc i) zero y ne = refl
set_beside (x ∷ xs) (suc i) (suc k) y ne = set_beside xs i k y (λ e. ne (ap (λ n. suc n) e))

-- the list after one of a list of vectors
pub list_at : {X : Type 0} → (all : List (Vec X Global)) (lists : List (List X)) (n : ℕ) (v : Vec X Global) → map (λ (l : Vec X Global). l.items) all ≡ lists → n < length all → v ≡ get_or all n v → v.items ≡ get_or lists n []
list_at {X} all lists n v same lt is = sym (ap (λ (ls : List (List X)). get_or ls n []) (sym same) ∙ get_or-map (λ (l : Vec X Global). l.items) all n v [] lt ∙ ap (λ (l : Vec X Global). l.items) (sym is))

-- what follows from what holds where there is none
pub none_maps : {X : Type 0} {P Q : Type 0} → (o : Option X) → (P → Q) → IfNone o P → IfNone o Q
none_maps None f h = f h
none_maps (Some x) f h = h

-- what holds, holds where there is none
pub if_none : {X : Type 0} {P : Type 0} → (o : Option X) → P → IfNone o P
if_none None p = p
if_none (Some x) p = tt
