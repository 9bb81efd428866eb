-- facts on lists that std lacks
use Rattle.std.proofs.Common.{◌≡◌, ◌≢◌, ℕ, zero, suc, ◌+◌, ◌<◌, ◌≤◌, Bool, true, false, cond, List, [], ◌∷◌, length, map, set, get_or, refl, sym, ap, arith, Option, Some, None, inl, inr, ◌==◌, filter, count_by, sum_by, option_to_list, All, option_map}
use Rattle.std.specs.List.{range_with_len}
use Rattle.std.proofs.lemmas.Bool.{cases_eq}
use Rattle.std.proofs.lemmas.Bool.Decides.{nat_tests}
use Rattle.std.proofs.lemmas.List.Elements.{All-head, All-tail}
use Rattle.std.proofs.lemmas.List.Sums.{sum_by-cons}

module _ {X Y : Type 0} where
  -- a function that differs at one place of a list
  pub map-same : (f g : X → Y) (xs : List X) → ((k : ℕ) (d : X) → k < length xs → g (get_or xs k d) ≡ f (get_or xs k d)) → map g xs ≡ map f xs
  map-same f g [] h = refl
  map-same f g (x ∷ xs) h = rw (h zero x (omega arith), map-same f g xs (λ k d lt. h (suc k) d (omega arith))) refl

  pub map-but : (f g : X → Y) (xs : List X) (n : ℕ) (d : X) → n < length xs → ((k : ℕ) (e : X) → k < length xs → k ≢ n → g (get_or xs k e) ≡ f (get_or xs k e)) → map g xs ≡ set (map f xs) n (g (get_or xs n d))
  map-but f g [] n d lt h = absurd (omega arith)
  map-but f g (x ∷ xs) zero d lt h =
      ap (λ ys. g x ∷ ys) (map-same f g xs (λ k e l. h (suc k) e (omega arith) (λ is. omega arith)))
  map-but f g (x ∷ xs) (suc n) d lt h =
      rw (h zero x (omega arith) (λ is. omega arith), map-but f g xs n d (omega arith) (λ k e l ne. h (suc k) e (omega arith) (λ is. ne (omega arith)))) refl

  -- a filter of a mapped list
  mapped_cases : (b : Bool) (f : X → Y) (x : X) (fs : List X) (rest : List Y) → rest ≡ map f fs → cond b (f x ∷ rest) rest ≡ map f (cond b (x ∷ fs) fs)
  mapped_cases true f x fs rest e = rw e refl
  mapped_cases false f x fs rest e = e

  pub filter-map : (p : Y → Bool) (f : X → Y) (xs : List X) → filter p (map f xs) ≡ map f (filter (λ x. p (f x)) xs)
  filter-map p f [] = refl
  filter-map p f (x ∷ xs) = mapped_cases (p (f x)) f x (filter (λ y. p (f y)) xs) (filter p (map f xs)) (filter-map p f xs)

  pub map-option_to_list : (f : X → Y) (o : Option X) → map f (option_to_list o) ≡ option_to_list (option_map f o)
  map-option_to_list f None = refl
  map-option_to_list f (Some x) = refl

-- a count over a mapped range, where each element counts as its number does
pub count_by-range : {X : Type 0} → (p : X → Bool) (f : ℕ → X) (q : ℕ → Bool) (a n : ℕ) → ((k : ℕ) → a ≤ k → k < a + n → p (f k) ≡ q k) → count_by p (map f (range_with_len a n)) ≡ count_by q (range_with_len a n)
count_by-range p f q a zero h = refl
count_by-range p f q a (suc n) h =
    let here : p (f a) ≡ q a = h a (omega arith) (omega arith) in
    let rest : count_by p (map f (range_with_len (a + 1) n)) ≡ count_by q (range_with_len (a + 1) n) = count_by-range p f q (a + 1) n (λ k le lt. h k (omega arith) (omega arith)) in
    omega (arith, sum_by-cons (λ x. cond {A = ℕ} (p x) 1 0) (f a) (map f (range_with_len (a + 1) n)), sum_by-cons (λ k. cond {A = ℕ} (q k) 1 0) a (range_with_len (a + 1) n), rest, ap (λ b. cond {A = ℕ} b 1 0) here)

-- elements of a list counted by each number that they may be
bit_past : (x a n : ℕ) → x < a → sum_by (λ k. cond {A = ℕ} (x == k) 1 0) (range_with_len a n) ≡ 0
bit_past x a zero lt = refl
bit_past x a (suc n) lt =
    let here : (x == a) ≡ false = grind (arith, nat_tests) in
    omega (arith, sum_by-cons (λ k. cond {A = ℕ} (x == k) 1 0) a (range_with_len (a + 1) n), bit_past x (a + 1) n (omega arith), ap (λ b. cond {A = ℕ} b 1 0) here)

bit_at : (x a n : ℕ) → a ≤ x → x < a + n → sum_by (λ k. cond {A = ℕ} (x == k) 1 0) (range_with_len a n) ≡ 1
bit_at x a zero le lt = absurd (omega arith)
bit_at x a (suc n) le lt = elim (cases_eq x a) [
  | inl is ↦
      let here : (x == a) ≡ true = grind (arith, nat_tests) in
      omega (arith, sum_by-cons (λ k. cond {A = ℕ} (x == k) 1 0) a (range_with_len (a + 1) n), bit_past x (a + 1) n (omega arith), ap (λ b. cond {A = ℕ} b 1 0) here)
  | inr ne ↦
      let here : (x == a) ≡ false = grind (arith, nat_tests) in
      let more : a ≤ x → a ≢ x → a + 1 ≤ x = λ l d. omega arith in
      let le' : a + 1 ≤ x = more le (λ e. ne (sym e)) in
      omega (arith, sum_by-cons (λ k. cond {A = ℕ} (x == k) 1 0) a (range_with_len (a + 1) n), bit_at x (a + 1) n le' (omega arith), ap (λ b. cond {A = ℕ} b 1 0) here)
]

sum_none : (ns : List ℕ) → sum_by (λ k. count_by (λ x. x == k) []) ns ≡ 0
sum_none [] = refl
sum_none (n ∷ ns) = omega (arith, sum_by-cons (λ k. count_by (λ x. x == k) []) n ns, sum_none ns)

sum_more : (y : ℕ) (ys ns : List ℕ) → sum_by (λ k. count_by (λ x. x == k) (y ∷ ys)) ns ≡ sum_by (λ k. cond {A = ℕ} (y == k) 1 0) ns + sum_by (λ k. count_by (λ x. x == k) ys) ns
sum_more y ys [] = refl
sum_more y ys (n ∷ ns) =
    omega (
      arith,
      sum_by-cons (λ k. count_by (λ x. x == k) (y ∷ ys)) n ns,
      sum_by-cons (λ k. cond {A = ℕ} (y == k) 1 0) n ns,
      sum_by-cons (λ k. count_by (λ x. x == k) ys) n ns,
      sum_by-cons (λ x. cond {A = ℕ} (x == n) 1 0) y ys,
      sum_more y ys ns,
    )

pub length-by_number : (n : ℕ) (ys : List ℕ) → All (λ y. y < n) ys → length ys ≡ sum_by (λ k. count_by (λ x. x == k) ys) (range_with_len 0 n)
length-by_number n [] h = sym (sum_none (range_with_len 0 n))
length-by_number n (y ∷ ys) h =
    omega (arith, sum_more y ys (range_with_len 0 n), bit_at y 0 n (omega arith) (omega (arith, All-head (λ x. x < n) y ys h)), length-by_number n ys (All-tail (λ x. x < n) y ys h))

-- sums by functions that agree
pub sum_by-same : {X : Type 0} → (f g : X → ℕ) (xs : List X) → ((x : X) → f x ≡ g x) → sum_by f xs ≡ sum_by g xs
sum_by-same f g [] h = refl
sum_by-same f g (x ∷ xs) h = omega (arith, sum_by-cons f x xs, sum_by-cons g x xs, h x, sum_by-same f g xs h)

-- a sum of numbers that are at most 1
pub sum_by-ones : (f : ℕ → ℕ) (ns : List ℕ) → ((n : ℕ) → f n ≤ 1) → sum_by f ns ≤ length ns
sum_by-ones f [] h = omega arith
sum_by-ones f (n ∷ ns) h = let le = h n in omega (arith, sum_by-cons f n ns, le, sum_by-ones f ns h)
