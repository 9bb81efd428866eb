-- counts over lists
use Rattle.std.proofs.Common.{◌≡◌, ℕ, ◌+◌, Bool, true, false, cond, List, [], ◌∷◌, map, refl, arith, ◌&&◌, filter, count_by, All}
use Rattle.std.proofs.lemmas.List.Elements.{All-head, All-tail}
use Rattle.std.proofs.lemmas.List.Sums.{sum_by-cons}

-- what a test counts for one
abbrev pub one : Bool → ℕ
one b = cond b 1 0

pub count_by-cons : {X : Type 0} (t : X → Bool) (x : X) (xs : List X) → count_by t (x ∷ xs) ≡ one (t x) + count_by t xs
count_by-cons t x xs = sum_by-cons (λ y. one (t y)) x xs

pub count-map : {X Y : Type 0} (t : Y → Bool) (f : X → Y) (xs : List X) → count_by t (map f xs) ≡ count_by (λ x. t (f x)) xs
count-map t f [] = refl
count-map t f (x ∷ xs) = omega (arith, count_by-cons t (f x) (map f xs), count_by-cons (λ y. t (f y)) x xs, count-map t f xs)

pub count-filter : {X : Type 0} (t s : X → Bool) (xs : List X) → count_by t (filter s xs) ≡ count_by (λ x. s x && t x) xs
count-filter t s [] = refl
count-filter t s (x ∷ xs) = elim (s x) as (λ b. s x ≡ b → count_by t (cond b (x ∷ filter s xs) (filter s xs)) ≡ count_by (λ y. s y && t y) (x ∷ xs)) [
  | true ↦ λ is. let here : one (s x && t x) ≡ one (t x) = rw is refl in omega (arith, here, count_by-cons t x (filter s xs), count_by-cons (λ y. s y && t y) x xs, count-filter t s xs)
  | false ↦ λ is. let here : ◌≡◌ {A = ℕ} (one (s x && t x)) 0 = rw is refl in omega (arith, here, count_by-cons (λ y. s y && t y) x xs, count-filter t s xs)
] refl

-- where what one test counts is what two others count, so are the counts
pub count_split : {X : Type 0} (p s t : X → Bool) (xs : List X) → All (λ x. one (p x) ≡ one (s x) + one (t x)) xs → count_by p xs ≡ count_by s xs + count_by t xs
count_split p s t [] h = refl
count_split p s t (x ∷ xs) h =
    let here = All-head (λ y. one (p y) ≡ one (s y) + one (t y)) x xs h in
    omega (arith, here, count_by-cons p x xs, count_by-cons s x xs, count_by-cons t x xs, count_split p s t xs (All-tail (λ y. one (p y) ≡ one (s y) + one (t y)) x xs h))
