-- times that lie one service time apart, and their rounds
use Rattle.std.proofs.Common.{◌≡◌, ℕ, zero, suc, ◌+◌, ◌-◌, ◌*◌, ◌/◌, ◌%◌, ◌<◌, ◌≤◌, ◌==◌, Bool, true, false, cond, min, List, [], ◌∷◌, ◌++◌, length, set, take, drop, slice_index, refl, sym, ap, ◌∙◌, arith, inl, inr, append_assoc, length-append, length-set, get_or-set_same, get_or-set_other}
use Rattle.std.specs.List.{All, count_by}
use Rattle.std.proofs.Math.Nat.{div-add-mod'}
use Rattle.std.proofs.lemmas.Nat.{div-mul-add, mod_below, mul-le, div_below}
use Rattle.std.proofs.lemmas.Bool.{cases_eq, eq-eqb, ne_eqb}
use Rattle.std.proofs.lemmas.List.{append-nil, take_at}
use Rattle.std.proofs.lemmas.List.Elements.{All-head, All-tail, All-nil, All-cons}
use Rattle.std.proofs.lemmas.List.Sums.{sum_by-append, sum_by-cons}
use Rattle.slots.specs.Gaps.{round_at, in_round, spaced, spare_within}
use Rattle.slots.specs.Tallies.{IsRow, IsTally, Clock, MOST_SPARE}

pub length-spaced : (service from n : ℕ) → length (spaced service from n) ≡ n
length-spaced service from zero = refl
length-spaced service from (suc n) = let rest = length-spaced service (from + service) n in omega arith

-- the first of them, and the others
pub spaced-add : (service from m n : ℕ) → spaced service from (m + n) ≡ spaced service from m ++ spaced service (from + m * service) n
spaced-add service from zero n =
    let none : zero + n ≡ n = omega arith in
    let same : from ≡ from + zero * service = omega arith in
    ap (spaced service from) none ∙ ap (λ t. spaced service t n) same
spaced-add service from (suc m) n =
    let more : suc m + n ≡ suc (m + n) = omega arith in
    let same : from + service + m * service ≡ from + suc m * service = omega arith in
    ap (spaced service from) more ∙ ap (λ ts. from ∷ ts) (spaced-add service (from + service) m n ∙ ap (λ t. spaced service (from + service) m ++ spaced service t n) same)

-- all of them are in one round
spaced_in : (service span begin q r from n : ℕ) → from ≡ begin + (q * span + r) → (0 < n → r + (n - 1) * service < span) → All (λ t. round_at span begin t ≡ 1 + q) (spaced service from n)
spaced_in service span begin q r from zero is within = All-nil (λ t. round_at span begin t ≡ 1 + q)
spaced_in service span begin q r from (suc n) is within =
    let last : r + n * service < span = let h = within (omega arith) in let e : suc n - 1 ≡ n = omega arith in omega (arith, h, ap (λ k. k * service) e) in
    let here : from - begin ≡ q * span + r = omega arith in
    let head : round_at span begin from ≡ 1 + q = ap (λ d. 1 + d / span) here ∙ ap (λ k. 1 + k) (div-mul-add q span r (omega arith)) in
    let rest : 0 < n → (r + service) + (n - 1) * service < span = λ some. omega (arith, times_less n service some) in
    All-cons (λ t. round_at span begin t ≡ 1 + q) from (spaced service (from + service) n) head (spaced_in service span begin q (r + service) (from + service) n (omega arith) rest)
  where
    times_less : (n k : ℕ) → 0 < n → (n - 1) * k + k ≡ n * k
    times_less zero k some = absurd (omega arith)
    times_less (suc n) k some = let e : suc n - 1 ≡ n = omega arith in omega (arith, ap (λ m. m * k) e)

-- how many of a list pass a test that all of them answer alike
count_alike : {X : Type 0} (p : X → Bool) (b : Bool) (xs : List X) → All (λ x. p x ≡ b) xs → count_by p xs ≡ cond b (length xs) 0
count_alike p true [] h = refl
count_alike p false [] h = refl
count_alike p true (x ∷ xs) h =
    let rest = count_alike p true xs (All-tail (λ y. p y ≡ true) x xs h) in
    let one : cond (p x) 1 0 ≡ 1 = ap (λ b. cond {A = ℕ} b 1 0) (All-head (λ y. p y ≡ true) x xs h) in
    let is = sum_by-cons (λ y. cond (p y) 1 0) x xs in
    omega (arith, rest, one, is)
count_alike p false (x ∷ xs) h =
    let rest = count_alike p false xs (All-tail (λ y. p y ≡ false) x xs h) in
    let none : cond (p x) 1 0 ≡ 0 = ap (λ b. cond {A = ℕ} b 1 0) (All-head (λ y. p y ≡ false) x xs h) in
    let is = sum_by-cons (λ y. cond (p y) 1 0) x xs in
    omega (arith, rest, none, is)

pub count-append : {X : Type 0} (p : X → Bool) (xs ys : List X) → count_by p (xs ++ ys) ≡ count_by p xs + count_by p ys
count-append p xs ys = sum_by-append (λ x. cond (p x) 1 0) xs ys

-- a row with more times in one round
pub IsRow-more : (clock : Clock) (times more row : List ℕ) (round n : ℕ) → round < length row → length more ≡ n → All (λ t. round_at clock.span clock.begin t ≡ round) more → IsRow clock times row → IsRow clock (times ++ more) (set row round (min MOST_SPARE (slice_index row round + n)))
IsRow-more clock times more row round n lt many same h = record {
  each = λ r less.
      let p : ℕ → Bool = λ t. round_at clock.span clock.begin t == r in
      let within : r < length row = omega (arith, less, length-set row round (min MOST_SPARE (slice_index row round + n))) in
      let both = count-append p times more in
      let old = h.each r within in
      elim (cases_eq round r) [
        | inl here ↦
            let all : count_by p more ≡ length more = count_alike p true more (λ k d l. eq-eqb _ r (same k d l ∙ here)) in
            let read = get_or-set_same row round (min MOST_SPARE (slice_index row round + n)) 0 lt in
            let at : slice_index row round ≡ slice_index row r = ap (slice_index row) here in
            let made : slice_index (set row round (min MOST_SPARE (slice_index row round + n))) round ≡ min MOST_SPARE (in_round clock.span clock.begin r (times ++ more)) = omega (arith, both, old, all, read, at, many) in
            ap (slice_index (set row round (min MOST_SPARE (slice_index row round + n)))) (sym here) ∙ made
        | inr other ↦
            let none : count_by p more ≡ 0 = count_alike p false more (λ k d l. ne_eqb _ r (λ e. other (sym (same k d l) ∙ e))) in
            let read = get_or-set_other row round r (min MOST_SPARE (slice_index row round + n)) 0 (λ e. other (sym e)) in
            let apart = none in
            read ∙ old ∙ ap (min MOST_SPARE) (omega (arith, both, apart))
      ];
}

-- times so far, of those that a row takes
pub record IsSpreading (clock : Clock) (from count : ℕ) (old row : List ℕ) (first left : ℕ) : Type 0 where
  pub done : List ℕ
  pub splits : spaced clock.service from count ≡ done ++ spaced clock.service first left
  pub reach : first + left * clock.service ≡ from + count * clock.service
  pub begun : clock.begin ≤ first
  pub size : length row ≡ length old
  pub rows : (times : List ℕ) → IsRow clock times old → IsRow clock (times ++ done) row

pub IsSpreading-none : (clock : Clock) (from count : ℕ) (row : List ℕ) → clock.begin ≤ from → IsSpreading clock from count row row from count
IsSpreading-none clock from count row begun = record {
  done = [];
  splits = refl;
  reach = refl;
  begun = begun;
  size = refl;
  rows = λ times h. rw (append-nil times) h;
}

pub IsSpreading-more : (clock : Clock) (from count : ℕ) (old row made : List ℕ) (first left fit within round : ℕ) → IsSpreading clock from count old row first left → 1 ≤ clock.span → (first - clock.begin) % clock.span + (fit - 1) * clock.service < clock.span → within ≡ min fit left → round ≡ round_at clock.span clock.begin first → round < length row → made ≡ set row round (min MOST_SPARE (slice_index row round + within)) → IsSpreading clock from count old made (first + within * clock.service) (left - within)
IsSpreading-more clock from count old row made first left fit within round h some fits is at lt set' =
    let service : ℕ = clock.service in
    let parts : within + (left - within) ≡ left = omega arith in
    let split = ap (spaced service first) (sym parts) ∙ spaced-add service first within (left - within) in
    let q : ℕ = (first - clock.begin) / clock.span in
    let r : ℕ = (first - clock.begin) % clock.span in
    let whole : q * clock.span + r ≡ first - clock.begin = div-add-mod' (first - clock.begin) clock.span in
    let begun = h.begun in
    let within_round : 0 < within → r + (within - 1) * service < clock.span = λ some'.
    let less : (within - 1) * service ≤ (fit - 1) * service = mul-le (within - 1) service (fit - 1) service (omega arith) (omega arith) in
    omega arith in
    let same : All (λ t. round_at clock.span clock.begin t ≡ round) (spaced service first within) = rw at (spaced_in service clock.span clock.begin q r first within (omega arith) within_round) in
    let reach = h.reach in
    let whole_left : left * service ≡ within * service + (left - within) * service = ap (λ n. n * service) (sym parts) ∙ times-add within (left - within) service in
    record {
      done = h.done ++ spaced service first within;
      splits = h.splits ∙ ap (λ ts. h.done ++ ts) split ∙ sym (append_assoc h.done (spaced service first within) (spaced service (first + within * service) (left - within)));
      reach = omega (arith, reach, whole_left);
      begun = omega (arith, begun);
      size = ap length set' ∙ length-set row round (min MOST_SPARE (slice_index row round + within)) ∙ h.size;
      rows = λ times row_of.
          rw (set', ← append_assoc times h.done (spaced service first within)) (IsRow-more clock (times ++ h.done) (spaced service first within) row round within lt (length-spaced service first within) same (h.rows times row_of));
    }
  where
    times-add : (m n k : ℕ) → (m + n) * k ≡ m * k + n * k
    times-add m n k = grind arith

pub IsSpreading-all : (clock : Clock) (from count : ℕ) (old row : List ℕ) (first left : ℕ) → IsSpreading clock from count old row first left → left ≡ 0 → (times : List ℕ) → IsRow clock times old → IsRow clock (times ++ spaced clock.service from count) row
IsSpreading-all clock from count old row first left h none times row_of =
    let all : spaced clock.service from count ≡ h.done = h.splits ∙ ap (λ n. h.done ++ spaced clock.service first n) none ∙ append-nil h.done in
    rw all (h.rows times row_of)

-- a later time is in no earlier round
pub round-later : (span begin s t : ℕ) → 1 ≤ span → s ≤ t → round_at span begin s ≤ round_at span begin t
round-later span begin s t some le =
    let n : ℕ = (t - begin) / span in
    let whole = div-add-mod' (t - begin) span in
    let rest = mod_below (t - begin) span some in
    let below : (s - begin) / span < n + 1 = div_below (s - begin) span (n + 1) some (omega (arith, times_more n span)) in
    omega arith
  where
    times_more : (n k : ℕ) → (n + 1) * k ≡ n * k + k
    times_more n k = grind arith

-- a tally with the spare starts of a span more
pub IsTally-more : (clock : Clock) (from until : ℕ) (old lent row made : List ℕ) (len total : ℕ) → len ≡ length old → lent ≡ old → length row ≡ length lent → made ≡ take len (row ++ drop (length row) old) → ((times : List ℕ) → IsRow clock times lent → IsRow clock (times ++ spaced clock.service from ((until - from) / clock.service)) row) → (times : List ℕ) → IsTally clock times old total → IsTally clock (times ++ spare_within clock.service from until) made (total + (until - from) / clock.service)
IsTally-more clock from until old lent row made len total long same size is rows times h =
    let whole : made ≡ row = is ∙ take_at row (drop (length row) old) len (omega (arith, ap length same)) in
    let before : IsRow clock times lent = rw same h.rows in
    record {
      rows = rw whole (rows times before);
      all = omega (arith, h.all, length-append times (spare_within clock.service from until), length-spaced clock.service from ((until - from) / clock.service));
    }
