-- facts on lists that std lacks
use Rattle.std.proofs.Common.{◌≡◌, ℕ, zero, suc, ◌<◌, Bool, true, false, List, [], ◌∷◌, ◌++◌, length, set, get_or, map, refl, sym, ap, ◌∙◌, arith, Some, ◌||◌, take, drop, slice_get}
use Rattle.std.specs.List.{list_any}
use Rattle.sim_worker.proofs.RunListFacts.{some_is}

pub set_at : {X : Type 0} → (xs : List X) (i : ℕ) (y w : X) → slice_get xs i ≡ Some w → slice_get (set xs i y) i ≡ Some y
set_at [] i y w h = absurd (cc)
set_at (x ∷ xs) zero y w h = refl
set_at (x ∷ xs) (suc i) y w h = set_at xs i y w h

-- a map that doesn't see what one element became
pub map_kept : {X Y : Type 0} → (f : X → Y) (xs : List X) (i : ℕ) (d y : X) → f y ≡ f (get_or xs i d) → i < length xs → map f (set xs i y) ≡ map f xs
map_kept f [] i d y same lt = refl
map_kept f (x ∷ xs) zero d y same lt = ap (λ z. z ∷ map f xs) same
map_kept f (x ∷ xs) (suc i) d y same lt = ap (λ zs. f x ∷ zs) (map_kept f xs i d y same (omega arith))

pub heads : {Y : Type 0} → (a b : Y) (s t : List Y) → a ∷ s ≡ b ∷ t → a ≡ b
heads a b s t e = cc

pub tails : {Y : Type 0} → (a b : Y) (s t : List Y) → a ∷ s ≡ b ∷ t → s ≡ t
tails a b s t e = cc

-- what stands at a place of a list is there by its map
pub map_at : {X Y : Type 0} → (f : X → Y) (xs ys : List X) (i : ℕ) (x : X) → map f xs ≡ map f ys → slice_get xs i ≡ Some x → (y : X) × (slice_get ys i ≡ Some y) × (f x ≡ f y)
map_at f [] ys i x same h = absurd (cc)
map_at f (z ∷ xs) [] i x same h = absurd (cc)
map_at f (z ∷ xs) (y ∷ ys) zero x same h = (y, refl, ap f (sym (some_is z x h)) ∙ heads (f z) (f y) (map f xs) (map f ys) same)
map_at f (z ∷ xs) (y ∷ ys) (suc i) x same h = map_at f xs ys i x (tails (f z) (f y) (map f xs) (map f ys) same) h

-- the parts of a list that was put back whole
pub put_back : {X : Type 0} → (n : ℕ) (xs ys : List X) → length xs ≡ length ys → n ≡ length ys → take n (xs ++ drop (length xs) ys) ≡ xs
put_back n [] [] same at = rw at refl
put_back n [] (y ∷ ys) same at = absurd (omega arith)
put_back n (x ∷ xs) [] same at = absurd (omega arith)
put_back n (x ∷ xs) (y ∷ ys) same at =
    let one : n ≡ suc (length ys) = at in
    ap (λ k. take k (x ∷ (xs ++ drop (length xs) ys))) one ∙ ap (λ zs. x ∷ zs) (put_back (length ys) xs ys (omega arith) refl)

-- an element that passes, where one does
pub any_some : {X : Type 0} → (p : X → Bool) (xs : List X) → list_any p xs ≡ true → (x : X) × (p x ≡ true)
any_some {X} p [] h = absurd (cc)
any_some {X} p (x ∷ xs) h = elim (p x) as (λ b. p x ≡ b → (b || list_any p xs) ≡ true → (y : X) × (p y ≡ true)) [
  | true ↦ λ is k. (x, is)
  | false ↦ λ is k. any_some p xs k
] refl h

pub none_any : {X : Type 0} → (p : X → Bool) (xs : List X) → ((k : ℕ) (x : X) → slice_get xs k ≡ Some x → p x ≡ false) → list_any p xs ≡ false
none_any p [] h = refl
none_any p (x ∷ xs) h = rw (h 0 x refl) (none_any p xs (λ k y at. h (suc k) y at))

pub take_and_drop : {X : Type 0} → (xs : List X) (n : ℕ) → take n xs ++ drop n xs ≡ xs
take_and_drop [] zero = refl
take_and_drop [] (suc n) = refl
take_and_drop (x ∷ xs) zero = refl
take_and_drop (x ∷ xs) (suc n) = ap (λ zs. x ∷ zs) (take_and_drop xs n)

pub none_there : {X : Type 0} → (xs : List X) → length xs ≡ 0 → xs ≡ []
none_there [] h = refl
none_there (x ∷ xs) h = absurd (omega arith)
