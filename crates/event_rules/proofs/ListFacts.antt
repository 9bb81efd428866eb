-- facts on lists that std lacks
use Rattle.std.proofs.Common.{◌≡◌, ℕ, ◌+◌, ◌<◌, ◌≤◌, Bool, true, false, cond, List, [], ◌∷◌, ◌++◌, length, refl, sym, ap, ◌∙◌, arith, Option, Some, None, zero-add, add-zero, length-append, zero, suc, ◌&&◌, filter, count_by, option_to_list, All}
use Rattle.std.specs.List.{filter_map, cons_option, range_with_len}
use Rattle.std.proofs.lemmas.List.Elements.{filter_map-append, All-nil, All-cons, All-head, All-tail}
use Rattle.std.proofs.lemmas.List.Sums.{sum_by-append, sum_by-cons}
use Rattle.cam_types.specs.Lists.{prefixed_after}

-- a filter takes one more
filter_map-one : {Y : Type 0} → (o : Option Y) → cons_option o [] ≡ option_to_list o
filter_map-one None = refl
filter_map-one (Some y) = refl

pub filter_map-push : {X Y : Type 0} → (f : X → Option Y) (xs : List X) (x : X) → filter_map f (xs ++ x ∷ []) ≡ filter_map f xs ++ option_to_list (f x)
filter_map-push f xs x = filter_map-append f xs (x ∷ []) ∙ ap (λ zs. filter_map f xs ++ zs) (filter_map-one (f x))

-- a count takes one more
pub count_by-push : {X : Type 0} → (p : X → Bool) (xs : List X) (x : X) → count_by p (xs ++ x ∷ []) ≡ count_by p xs + cond (p x) 1 0
count_by-push p xs x = sum_by-append (λ y. cond (p y) 1 0) xs (x ∷ []) ∙ ap (λ n. count_by p xs + n) (zero-add (cond (p x) 1 0))

pub length-filter_map : {X Y : Type 0} → (f : X → Option Y) (xs : List X) → length (filter_map f xs) ≤ length xs
length-filter_map f [] = omega arith
length-filter_map f (x ∷ xs) = elim (f x) as (λ o. length (cons_option o (filter_map f xs)) ≤ length (x ∷ xs)) [
  | None ↦ omega (arith, length-filter_map f xs)
  | Some y ↦ omega (arith, length-filter_map f xs)
]

-- filters by tests that agree on the elements
pub filter-same : {X : Type 0} → (p q : X → Bool) (xs : List X) → All (λ x. p x ≡ q x) xs → filter p xs ≡ filter q xs
filter-same p q [] h = refl
filter-same p q (x ∷ xs) h =
    let here : p x ≡ q x = All-head (λ y. p y ≡ q y) x xs h in
    let rest : filter p xs ≡ filter q xs = filter-same p q xs (All-tail (λ y. p y ≡ q y) x xs h) in
    rw (here, rest) refl

-- one filter after another
both_cases : {X : Type 0} → (b : Bool) (q : X → Bool) (x : X) (ps bs : List X) → bs ≡ filter q ps → cond (b && q x) (x ∷ bs) bs ≡ filter q (cond b (x ∷ ps) ps)
both_cases true q x ps bs e = rw e refl
both_cases false q x ps bs e = e

pub filter-both : {X : Type 0} → (p q : X → Bool) (xs : List X) → filter (λ x. p x && q x) xs ≡ filter q (filter p xs)
filter-both p q [] = refl
filter-both p q (x ∷ xs) = both_cases (p x) q x (filter p xs) (filter (λ y. p y && q y) xs) (filter-both p q xs)

-- what holds of each answer, given the events before it, holds of all answers
All-cons_option : {Y : Type 0} → (P : Y → Type 0) (o : Option Y) (ys : List Y) → ((y : Y) → o ≡ Some y → P y) → All P ys → All P (cons_option o ys)
All-cons_option P None ys h a = a
All-cons_option P (Some y) ys h a = All-cons P y ys (h y refl) a

pub All-filter_map-prefixed : {X Y : Type 0} → (P : Y → Type 0) (f : List X × X → Option Y) (n : ℕ) → ((before : List X) (x : X) (y : Y) → length before < n → f (before, x) ≡ Some y → P y) → (before xs : List X) → length before + length xs ≤ n → All P (filter_map f (prefixed_after before xs))
All-filter_map-prefixed P f n h before [] le = All-nil P
All-filter_map-prefixed P f n h before (x ∷ xs) le =
    All-cons_option P (f (before, x)) (filter_map f (prefixed_after (before ++ x ∷ []) xs)) (λ y e. h before x y (omega arith) e)
    (All-filter_map-prefixed P f n h (before ++ x ∷ []) xs (omega (arith, length-append before (x ∷ []))))

pub length-prefixed_after : {X : Type 0} → (before xs : List X) → length (prefixed_after before xs) ≡ length xs
length-prefixed_after before [] = refl
length-prefixed_after before (x ∷ xs) = omega (arith, length-prefixed_after (before ++ x ∷ []) xs)

-- a filter that all pass keeps all
pub filter-all : {X : Type 0} → (p : X → Bool) → ((x : X) → p x ≡ true) → (xs : List X) → filter p xs ≡ xs
filter-all p h [] = refl
filter-all p h (x ∷ xs) = rw (h x, filter-all p h xs) refl

-- a range one longer
pub range_with_len-push : (a n : ℕ) → range_with_len a (n + 1) ≡ range_with_len a n ++ (a + n) ∷ []
range_with_len-push a zero = rw (add-zero a) refl
range_with_len-push a (suc n) =
    let one : suc n + 1 ≡ suc (n + 1) = omega arith in
    let e : (a + 1) + n ≡ a + suc n = omega arith in
    rw one (ap (λ ns. a ∷ ns) (range_with_len-push (a + 1) n ∙ ap (λ k. range_with_len (a + 1) n ++ k ∷ []) e))

-- a count of the elements that a filter keeps: all that are of a kind, or none
kept_cases : {X : Type 0} → (b c : Bool) (p : X → Bool) (x : X) (fs : List X) (n : ℕ) → p x ≡ c → (c ≡ true → b ≡ true) → count_by p fs ≡ n → count_by p (cond b (x ∷ fs) fs) ≡ cond c 1 0 + n
kept_cases true c p x fs n is h e = omega (arith, sum_by-cons (λ y. cond {A = ℕ} (p y) 1 0) x fs, ap (λ b. cond {A = ℕ} b 1 0) is, e)
kept_cases false true p x fs n is h e = absurd (let g : false ≡ true = h refl in cc)
kept_cases false false p x fs n is h e = omega (arith, e)

pub count_by-kept : {X : Type 0} → (p q : X → Bool) (xs : List X) → ((x : X) → p x ≡ true → q x ≡ true) → count_by p (filter q xs) ≡ count_by p xs
count_by-kept p q [] h = refl
count_by-kept p q (x ∷ xs) h =
    kept_cases (q x) (p x) p x (filter q xs) (count_by p xs) refl (h x) (count_by-kept p q xs h) ∙ sym (sum_by-cons (λ y. cond {A = ℕ} (p y) 1 0) x xs)

dropped_cases : {X : Type 0} → (b : Bool) (p : X → Bool) (x : X) (fs : List X) → (b ≡ true → p x ≡ false) → count_by p fs ≡ 0 → count_by p (cond b (x ∷ fs) fs) ≡ 0
dropped_cases true p x fs h e = omega (arith, sum_by-cons (λ y. cond {A = ℕ} (p y) 1 0) x fs, ap (λ b. cond {A = ℕ} b 1 0) (h refl), e)
dropped_cases false p x fs h e = e

pub count_by-dropped : {X : Type 0} → (p q : X → Bool) (xs : List X) → ((x : X) → q x ≡ true → p x ≡ false) → count_by p (filter q xs) ≡ 0
count_by-dropped p q [] h = refl
count_by-dropped p q (x ∷ xs) h = dropped_cases (q x) p x (filter q xs) (h x) (count_by-dropped p q xs h)
