-- how many times are up to one, and how many spans cover it
use Rattle.std.proofs.Common.{◌≡◌, ℕ, zero, suc, ◌+◌, ◌<◌, ◌≤◌, ◌^◌, Bool, true, false, cond, List, [], ◌∷◌, ◌++◌, length, map, get_or, refl, sym, ap, ◌∙◌, arith, inl, inr, Option, Some, None, nat_lt, nat_le}
use Rattle.std.specs.List.{filter_map, cons_option, All}
use Rattle.std.specs.List.Sorted.{IsPermutation, IsNonDecreasing}
use Rattle.std.proofs.lemmas.Bool.{cases_lt, leb-true, lt-ltb, le-ltb, le-leb, lt-leb}
use Rattle.std.proofs.lemmas.List.Sorted.{sum_by-IsPermutation}
use Rattle.std.proofs.lemmas.List.{length-map}
use Rattle.std.proofs.lemmas.List.Sums.{sum_by-append, sum_by-cons, count_by-le-length}
use Rattle.slots.specs.Flights.{Flight, span_held}
use Rattle.slots.specs.Spans.{Span, covers, covering}
use Rattle.slots.specs.Bounds.{AreBounds, end_of, end_in_time, up_to}

pub up_to-cons : (x : ℕ) (xs : List ℕ) (t : ℕ) → up_to (x ∷ xs) t ≡ cond (nat_le x t) 1 0 + up_to xs t
up_to-cons x xs t = sum_by-cons (λ y. cond (nat_le y t) 1 0) x xs

-- as many as stand first and are up to a time
pub up_to-ge : (xs : List ℕ) (n t : ℕ) → n ≤ length xs → ((k : ℕ) → k < n → get_or xs k 0 ≤ t) → n ≤ up_to xs t
up_to-ge xs zero t le h = omega arith
up_to-ge [] (suc n) t le h = absurd (omega arith)
up_to-ge (x ∷ xs) (suc n) t le h =
    let head : x ≤ t = h 0 (omega arith) in
    let one : nat_le x t ≡ true = le-leb x t head in
    let rest : n ≤ up_to xs t = up_to-ge xs n t (omega arith) (λ k lt. h (suc k) (omega arith)) in
    let is : up_to (x ∷ xs) t ≡ 1 + up_to xs t = up_to-cons x xs t ∙ ap (λ b. cond b 1 0 + up_to xs t) one in
    omega arith

-- no more than those before all that are later
pub up_to-le : (xs : List ℕ) (n t : ℕ) → ((k : ℕ) → n ≤ k → k < length xs → t < get_or xs k 0) → up_to xs t ≤ n
up_to-le [] n t h = omega arith
up_to-le (x ∷ xs) zero t h =
    let head : t < x = h 0 (omega arith) (omega arith) in
    let none : nat_le x t ≡ false = lt-leb x t head in
    let rest : up_to xs t ≤ 0 = up_to-le xs 0 t (λ k low lt. h (suc k) (omega arith) (omega arith)) in
    let is : up_to (x ∷ xs) t ≡ 0 + up_to xs t = up_to-cons x xs t ∙ ap (λ b. cond b 1 0 + up_to xs t) none in
    omega arith
up_to-le (x ∷ xs) (suc n) t h =
    let rest : up_to xs t ≤ n = up_to-le xs n t (λ k low lt. h (suc k) (omega arith) (omega arith)) in
    let is : up_to (x ∷ xs) t ≡ cond (nat_le x t) 1 0 + up_to xs t = up_to-cons x xs t in
    let few : cond (nat_le x t) 1 0 ≤ 1 = one_at_most (nat_le x t) in
    omega arith
  where
    one_at_most : (b : Bool) → cond b 1 0 ≤ 1
    one_at_most true = omega arith
    one_at_most false = omega arith

-- more are up to a later time
pub up_to-later : (xs : List ℕ) (s t : ℕ) → s ≤ t → up_to xs s ≤ up_to xs t
up_to-later [] s t le = omega arith
up_to-later (x ∷ xs) s t le =
    let rest = up_to-later xs s t le in
    let a = up_to-cons x xs s in
    let b = up_to-cons x xs t in
    let one : cond (nat_le x s) 1 0 ≤ cond (nat_le x t) 1 0 = elim (nat_le x s) as (λ v. nat_le x s ≡ v → cond v 1 0 ≤ cond (nat_le x t) 1 0) [
      | true ↦ λ is. let le' : x ≤ t = omega (arith, leb-true x s is) in rw (le-leb x t le') (omega arith)
      | false ↦ λ _. omega arith
    ] refl in
    omega arith

-- as many, if none is after the one and up to the other
pub up_to-same : (xs : List ℕ) (s t : ℕ) → s ≤ t → All (λ x. s < x → t < x) xs → up_to xs s ≡ up_to xs t
up_to-same [] s t le h = refl
up_to-same (x ∷ xs) s t le h =
    let rest : up_to xs s ≡ up_to xs t = up_to-same xs s t le (λ k d lt. h (suc k) d (omega arith)) in
    let head : s < x → t < x = h 0 0 (omega arith) in
    let same : nat_le x s ≡ nat_le x t = elim (cases_lt s x) [
      | inl later ↦ lt-leb x s later ∙ sym (lt-leb x t (head later))
      | inr early ↦ le-leb x s early ∙ sym (le-leb x t (omega arith))
    ] in
    let a = up_to-cons x xs s in
    let b = up_to-cons x xs t in
    let c : cond (nat_le x s) 1 0 ≡ cond (nat_le x t) 1 0 = ap (λ v. cond {A = ℕ} v 1 0) same in
    omega (arith, a, b, c, rest)

-- a span covers a time if it has begun and not ended
cover_one : (s : Span) (t : ℕ) → t < 2 ^ 64 → cond (covers t s) 1 0 + up_to (cons_option (end_in_time s) []) t ≡ cond (nat_le s.from t) 1 0
unfolding end_in_time
cover_one s t small = elim (cases_lt t s.from) [
  | inl before ↦
      let none : nat_le s.from t ≡ false = lt-leb s.from t before in
      elim (nat_le (end_of s) 18446744073709551615) as (λ b. cond (covers t s) 1 0 + up_to (cons_option (cond b (Some (end_of s)) None) []) t ≡ cond (nat_le s.from t) 1 0) [
        | true ↦
            let later : nat_le (end_of s) t ≡ false = lt-leb (end_of s) t (omega arith) in
            rw (none, later) refl
        | false ↦ rw none refl
      ]
  | inr begun ↦
      let one : nat_le s.from t ≡ true = le-leb s.from t begun in
      elim (cases_lt t s.until) [
        | inl inside ↦
            let yes : nat_lt t s.until ≡ true = lt-ltb t s.until inside in
            elim (nat_le (end_of s) 18446744073709551615) as (λ b. cond (covers t s) 1 0 + up_to (cons_option (cond b (Some (end_of s)) None) []) t ≡ cond (nat_le s.from t) 1 0) [
              | true ↦
                  let later : nat_le (end_of s) t ≡ false = lt-leb (end_of s) t (omega arith) in
                  rw (one, yes, later) refl
              | false ↦ rw (one, yes) refl
            ]
        | inr over ↦
            let no : nat_lt t s.until ≡ false = le-ltb t s.until over in
            let fits : nat_le (end_of s) 18446744073709551615 ≡ true = le-leb (end_of s) 18446744073709551615 (omega arith) in
            let past : nat_le (end_of s) t ≡ true = le-leb (end_of s) t (omega arith) in
            rw (one, no, fits, past) refl
      ]
]

up_to-append : (xs ys : List ℕ) (t : ℕ) → up_to (xs ++ ys) t ≡ up_to xs t + up_to ys t
up_to-append xs ys t = sum_by-append (λ y. cond (nat_le y t) 1 0) xs ys

one_more : (o : Option ℕ) (xs : List ℕ) → cons_option o xs ≡ cons_option o [] ++ xs
one_more None xs = refl
one_more (Some x) xs = refl

cover_all : (spans : List Span) (t : ℕ) → t < 2 ^ 64 → covering spans t + up_to (filter_map end_in_time spans) t ≡ up_to (map (λ (s : Span). s.from) spans) t
cover_all [] t small = refl
cover_all (s ∷ spans) t small =
    let rest = cover_all spans t small in
    let head = cover_one s t small in
    let a = sum_by-cons (λ (u : Span). cond (covers t u) 1 0) s spans in
    let b : up_to (cons_option (end_in_time s) (filter_map end_in_time spans)) t ≡ up_to (cons_option (end_in_time s) []) t + up_to (filter_map end_in_time spans) t =
    ap (λ xs. up_to xs t) (one_more (end_in_time s) (filter_map end_in_time spans)) ∙ up_to-append (cons_option (end_in_time s) []) (filter_map end_in_time spans) t in
    let c = up_to-cons s.from (map (λ (u : Span). u.from) spans) t in
    omega (arith, a, b, c, rest, head)

pub AreBounds-made : (spans : List Span) (begins ends begun ended : List ℕ) → begins ≡ map (λ (s : Span). s.from) spans → ends ≡ filter_map end_in_time spans → IsPermutation begins begun → IsPermutation ends ended → IsNonDecreasing begun → IsNonDecreasing ended → AreBounds spans begun ended
AreBounds-made spans begins ends begun ended are_begins are_ends moved_begins moved_ends up_begins up_ends =
    let all_begins : IsPermutation (map (λ (s : Span). s.from) spans) begun = rw are_begins at moved_begins in
    let all_ends : IsPermutation (filter_map end_in_time spans) ended = rw are_ends at moved_ends in
    let cover : (t : ℕ) → t < 2 ^ 64 → covering spans t + up_to ended t ≡ up_to begun t = λ t small.
    let a = sum_by-IsPermutation (λ x. cond (nat_le x t) 1 0) (map (λ (s : Span). s.from) spans) begun all_begins in
    let b = sum_by-IsPermutation (λ x. cond (nat_le x t) 1 0) (filter_map end_in_time spans) ended all_ends in
    let all = cover_all spans t small in
    omega (arith, a, b, all) in
    record {
      order = record { begins_order = up_begins; ends_order = up_ends; begun = λ t small. let is = cover t small in omega arith };
      begins_all = all_begins;
      ends_all = all_ends;
      cover = cover;
    }

pub end_in_time-fits : (s : Span) (e : ℕ) → e ≡ end_of s → e ≤ 18446744073709551615 → Some e ≡ end_in_time s
unfolding end_in_time
end_in_time-fits s e is le = rw (← is, le-leb e 18446744073709551615 le) refl

pub end_in_time-over : (s : Span) (e : ℕ) → e ≡ end_of s → 18446744073709551615 < e → None ≡ end_in_time s
unfolding end_in_time
end_in_time-over s e is lt = rw (← is, lt-leb e 18446744073709551615 lt) refl

-- one more of the times in their order is up to one
pub counted_more : (xs : List ℕ) (n t : ℕ) → IsNonDecreasing xs → n < length xs → get_or xs n 0 ≤ t → n + 1 ≤ up_to xs t
counted_more xs n t up lt le = up_to-ge xs (n + 1) t (omega arith) (λ k less. let before = up k n 0 (omega arith) lt in omega arith)

-- no more are, where the next one is later
pub counted_all : (xs : List ℕ) (n t : ℕ) → IsNonDecreasing xs → n ≤ up_to xs t → t < get_or xs n 0 → n ≡ up_to xs t
counted_all xs n t up low later =
    let high : up_to xs t ≤ n = up_to-le xs n t (λ k le lt. let after = up n k 0 le lt in omega arith) in
    omega arith

-- how many are counted of a list that was lent
pub counted_through : (xs : List ℕ) (t : ℕ) (ys : List ℕ) (n : ℕ) → ys ≡ xs → n ≡ up_to ys t → n ≡ up_to xs t
counted_through xs t ys n lent is = is ∙ ap (λ zs. up_to zs t) lent

-- how many cover the start of a flight
pub flying_read : (usual : ℕ) (fs : List Flight) (spans lent : List Span) (begins ends : List ℕ) (t n : ℕ) → spans ≡ map (span_held usual) fs → lent ≡ spans → AreBounds lent begins ends → t < 2 ^ 64 → n + up_to ends t ≡ up_to begins t → n ≡ covering (map (span_held usual) fs) t
flying_read usual fs spans lent begins ends t n are same h small is =
    let whole = ap (λ ss. covering ss t) (same ∙ are) in
    let cover = h.cover t small in
    omega (arith, whole, cover, is)

pub flying_few : (usual : ℕ) (fs : List Flight) (t : ℕ) → covering (map (span_held usual) fs) t ≤ length fs
flying_few usual fs t = omega (arith, count_by-le-length (covers t) (map (span_held usual) fs), length-map fs (span_held usual))

pub up_to-few : (xs : List ℕ) (t : ℕ) → up_to xs t ≤ length xs
up_to-few xs t = count_by-le-length (λ x. nat_le x t) xs
