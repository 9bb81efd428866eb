-- the rows that a table has of each number
use Rattle.std.proofs.Common.{◌≡◌, ℕ, zero, suc, ◌+◌, ◌-◌, ◌<◌, ◌≤◌, true, false, List, [], ◌∷◌, ◌++◌, refl, sym, ap, ◌∙◌, arith, ◌==◌, flat_map, sum_by, None, Some, eqb-true}
use Rattle.std.specs.Prelude.{max, fold, All, ⊤}
use Rattle.std.specs.List.{range_with_len}
use Rattle.std.proofs.lemmas.Bool.Decides.{nat_tests}
use Rattle.std.proofs.lemmas.List.Elements.{All-cons}
use Rattle.std.proofs.lemmas.List.Sums.{sum_by-cons, sum_by-append}
use Rattle.wait_causes.specs.Origins.{Known}
use Rattle.wait_causes.specs.Parts.{part_of}
use Rattle.wait_causes.specs.Tables.{stays_of, row_for, row_of, greatest, table_of}
use Rattle.wait_causes.specs.declared.explained_stay.ExplainedStay.{ExplainedStay}
use Rattle.wait_causes.specs.declared.table.Grouping.{Grouping}
use Rattle.wait_causes.specs.declared.table.Row as table
use Rattle.wait_causes.proofs.CostLemmas.{sum_flat, sum_same}
use Rattle.wait_causes.proofs.RowLemmas.{plus-none, row_cons, row_none}
use Rattle.wait_causes.specs.Pairs.{numbers, row_at}
use Rattle.wait_causes.specs.PairLaws.{amount_in}

-- ---- the rows of some groups of stays, for the numbers from some on

abbrev rows_from : Known → (ℕ → List ExplainedStay) → ℕ → ℕ → List table.Row
rows_from known f a k = flat_map (λ m. row_for known m (f m)) (range_with_len a k)

skip : (r : table.Row) (rows : List table.Row) (n : ℕ) → (r.number == n) ≡ false → row_at (r ∷ rows) n ≡ row_at rows n
skip r rows n is = rw is refl

hit : (r : table.Row) (rows : List table.Row) (n : ℕ) → (r.number == n) ≡ true → row_at (r ∷ rows) n ≡ Some r
hit r rows n is = rw is refl

other_row : (known : Known) (part : List ExplainedStay) (m n : ℕ) (rest : List table.Row) → (m == n) ≡ false → row_at (row_for known m part ++ rest) n ≡ row_at rest n
other_row known [] m n rest apart = ap (λ rs. row_at (rs ++ rest) n) (row_none known m)
other_row known (s ∷ ss) m n rest apart = ap (λ rs. row_at (rs ++ rest) n) (row_cons known m s ss) ∙ skip (record { number = m; part = part_of known (s ∷ ss) }) rest n apart

-- none of an earlier number
early : (known : Known) (f : ℕ → List ExplainedStay) (a k n : ℕ) → n < a → row_at (rows_from known f a k) n ≡ None
early known f a zero n lt = refl
early known f a (suc k) n lt =
    let apart : (a == n) ≡ false = grind (arith, nat_tests) in
    other_row known (f a) a n (rows_from known f (a + 1) k) apart ∙ early known f (a + 1) k n (omega (arith, lt))

own_row : (known : Known) (amount : table.Row → ℕ) (part : List ExplainedStay) (n : ℕ) (rest : List table.Row) → row_at rest n ≡ None →
    amount_in amount (row_at (row_for known n part ++ rest) n) ≡ sum_by amount (row_for known n part)
own_row known amount [] n rest none =
    ap (λ rs. amount_in amount (row_at (rs ++ rest) n)) (row_none known n) ∙ ap (amount_in amount) none
    ∙ sym (ap (sum_by amount) (row_none known n))
own_row known amount (s ∷ ss) n rest none =
    let yes : (n == n) ≡ true = grind (arith, nat_tests) in
    ap (λ rs. amount_in amount (row_at (rs ++ rest) n)) (row_cons known n s ss)
    ∙ ap (amount_in amount) (hit (record { number = n; part = part_of known (s ∷ ss) }) rest n yes)
    ∙ sym (
    ap (sum_by amount) (row_cons known n s ss)
    ∙ sum_by-cons amount (record { number = n; part = part_of known (s ∷ ss) }) []
    ∙ plus-none (amount (record { number = n; part = part_of known (s ∷ ss) }))
    )

-- of each of these numbers the row of its group
inside : (known : Known) (amount : table.Row → ℕ) (f : ℕ → List ExplainedStay) (a k n : ℕ) → a ≤ n → n < a + k →
    amount_in amount (row_at (rows_from known f a k) n) ≡ sum_by amount (row_for known n (f n))
inside known amount f a zero n ge lt = absurd (omega (arith, ge, lt))
inside known amount f a (suc k) n ge lt =
    elim (a == n) as (λ b. (a == n) ≡ b → amount_in amount (row_at (rows_from known f a (suc k)) n) ≡ sum_by amount (row_for known n (f n))) [
      | true ↦ λ e.
          let same : a ≡ n = eqb-true a n e in
          ap (λ j. amount_in amount (row_at (rows_from known f a (suc k)) j)) (sym same)
          ∙ own_row known amount (f a) a (rows_from known f (a + 1) k) (early known f (a + 1) k a (omega arith))
          ∙ ap (λ j. sum_by amount (row_for known j (f j))) same
      | false ↦ λ e.
          let later : a + 1 ≤ n = grind (arith, nat_tests) in
          ap (amount_in amount) (other_row known (f a) a n (rows_from known f (a + 1) k) e)
          ∙ inside known amount f (a + 1) k n later (omega (arith, lt))
    ] refl

-- ---- the greatest number

abbrev reach : List table.Row → ℕ → ℕ
reach rows m = fold (λ n (r : table.Row). max n (r.number + 1)) m rows

rises : (rows : List table.Row) (m : ℕ) → m ≤ reach rows m
rises [] m = omega arith
rises (r ∷ rows) m =
    let more : m ≤ max m (r.number + 1) = omega arith in
    omega (arith, more, rises rows (max m (r.number + 1)))

below : (rows : List table.Row) (m : ℕ) → All (λ (r : table.Row). r.number < reach rows m) rows
below [] m = λ k d lt. absurd (omega arith)
below (r ∷ rows) m =
    let more : r.number + 1 ≤ max m (r.number + 1) = omega arith in
    All-cons (λ (t : table.Row). t.number < reach (r ∷ rows) m) r rows (omega (arith, more, rises rows (max m (r.number + 1)))) (below rows (max m (r.number + 1)))

no_row : (rows : List table.Row) (b n : ℕ) → All (λ (r : table.Row). r.number < b) rows → b ≤ n → row_at rows n ≡ None
no_row [] b n all le = refl
no_row (r ∷ rows) b n all le =
    let lt : r.number < b = all 0 r (omega arith) in
    let apart : (r.number == n) ≡ false = grind (arith, nat_tests) in
    skip r rows n apart ∙ no_row rows b n (λ k d lt. all (suc k) d (omega (arith, lt))) le

-- a table has no row of a number beyond its own
pub beyond : (rows : List table.Row) (n : ℕ) → numbers rows ≤ n → row_at rows n ≡ None
unfolding numbers
beyond rows n le = no_row rows (reach rows 0) n (below rows 0) le

row_within : (known : Known) (part : List ExplainedStay) (a m bound : ℕ) (rest : List table.Row) → a + 1 ≤ bound → m ≤ bound → ((j : ℕ) → j ≤ bound → reach rest j ≤ bound) → reach (row_for known a part ++ rest) m ≤ bound
row_within known [] a m bound rest le lm each = rw (row_none known a) (each m lm)
row_within known (s ∷ ss) a m bound rest le lm each =
    let most : max m (a + 1) ≤ bound = omega (arith, le, lm) in
    rw (row_cons known a s ss) (each (max m (a + 1)) most)

within : (known : Known) (f : ℕ → List ExplainedStay) (a k m bound : ℕ) → a + k ≤ bound → m ≤ bound → reach (rows_from known f a k) m ≤ bound
within known f a zero m bound le lm = lm
within known f a (suc k) m bound le lm =
    row_within known (f a) a m bound (rows_from known f (a + 1) k) (omega (arith, le)) lm (λ j lj. within known f (a + 1) k j bound (omega (arith, le)) lj)

few_numbers : (known : Known) (by : Grouping) (stays : List ExplainedStay) → numbers (table_of known by stays) ≤ greatest by stays + 1
unfolding numbers table_of
few_numbers known by stays = within known (stays_of by stays) 0 (greatest by stays + 1) 0 (greatest by stays + 1) (omega arith) (omega arith)

-- ---- sums

range_push : (a n : ℕ) → range_with_len a (suc n) ≡ range_with_len a n ++ (a + n) ∷ []
range_push a zero = ap (λ k. k ∷ []) (sym (plus-none a))
range_push a (suc n) =
    let more : a + 1 + n ≡ a + suc n = omega arith in
    ap (λ ks. a ∷ ks) (range_push (a + 1) n) ∙ ap (λ k. a ∷ (range_with_len (a + 1) n ++ k ∷ [])) more

no_more : (f : ℕ → ℕ) (n d : ℕ) → ((k : ℕ) → n ≤ k → f k ≡ 0) → sum_by f (range_with_len 0 (n + d)) ≡ sum_by f (range_with_len 0 n)
no_more f n zero z = ap (λ k. sum_by f (range_with_len 0 k)) (plus-none n)
no_more f n (suc d) z =
    let more : n + suc d ≡ suc (n + d) = omega arith in
    let last : f (0 + (n + d)) ≡ 0 = z (0 + (n + d)) (omega arith) in
    ap (λ k. sum_by f (range_with_len 0 k)) more
    ∙ ap (sum_by f) (range_push 0 (n + d))
    ∙ omega (arith, sum_by-append f (range_with_len 0 (n + d)) ((0 + (n + d)) ∷ []), sum_by-cons f (0 + (n + d)) [], last, no_more f n d z)

up_to : (f : ℕ → ℕ) (n most : ℕ) → n ≤ most → ((k : ℕ) → n ≤ k → f k ≡ 0) → sum_by f (range_with_len 0 most) ≡ sum_by f (range_with_len 0 n)
up_to f n most le z =
    let all : most ≡ n + (most - n) = omega (arith, le) in
    ap (λ k. sum_by f (range_with_len 0 k)) all ∙ no_more f n (most - n) z

of_number : (known : Known) (by : Grouping) (stays : List ExplainedStay) (amount : table.Row → ℕ) (n : ℕ) → n < 0 + (greatest by stays + 1) →
    amount_in amount (row_at (table_of known by stays) n) ≡ sum_by amount (row_of known by stays n)
unfolding table_of
of_number known by stays amount n lt = inside known amount (stays_of by stays) 0 (greatest by stays + 1) n (omega arith) lt

all_rows : (known : Known) (by : Grouping) (stays : List ExplainedStay) (amount : table.Row → ℕ) →
    sum_by (λ n. sum_by amount (row_of known by stays n)) (range_with_len 0 (greatest by stays + 1)) ≡ sum_by amount (table_of known by stays)
unfolding table_of
all_rows known by stays amount = sym (sum_flat amount (row_of known by stays) (range_with_len 0 (greatest by stays + 1)))

-- the rows of a table by number, up to any number that is enough, have together what all its rows have
pub all_amounts : (known : Known) (by : Grouping) (stays : List ExplainedStay) (amount : table.Row → ℕ) (most : ℕ) → numbers (table_of known by stays) ≤ most →
    sum_by (λ n. amount_in amount (row_at (table_of known by stays) n)) (range_with_len 0 most) ≡ sum_by amount (table_of known by stays)
all_amounts known by stays amount most le =
    let none : (k : ℕ) → numbers (table_of known by stays) ≤ k → amount_in amount (row_at (table_of known by stays) k) ≡ 0 = λ k above. ap (amount_in amount) (beyond (table_of known by stays) k above) in
    up_to (λ n. amount_in amount (row_at (table_of known by stays) n)) (numbers (table_of known by stays)) most le none
    ∙ sym (up_to (λ n. amount_in amount (row_at (table_of known by stays) n)) (numbers (table_of known by stays)) (greatest by stays + 1) (few_numbers known by stays) none)
    ∙ sum_same (λ n. amount_in amount (row_at (table_of known by stays) n)) (λ n. sum_by amount (row_of known by stays n)) 0 (greatest by stays + 1) (λ n lt. of_number known by stays amount n lt)
    ∙ all_rows known by stays amount

-- ---- numbers ascend

-- each row has a greater number
abbrev pub IsAbove : ℕ → List table.Row → Type 0
IsAbove n [] = ⊤
IsAbove n (r ∷ rows) = (n < r.number) × IsAbove n rows

abbrev pub IsAscending : List table.Row → Type 0
IsAscending [] = ⊤
IsAscending (r ∷ rows) = IsAbove r.number rows × IsAscending rows

above_row : (known : Known) (part : List ExplainedStay) (a b : ℕ) (rest : List table.Row) → b < a → IsAbove b rest → IsAbove b (row_for known a part ++ rest)
above_row known [] a b rest lt above = rw (row_none known a) above
above_row known (s ∷ ss) a b rest lt above = rw (row_cons known a s ss) (lt, above)

above : (known : Known) (f : ℕ → List ExplainedStay) (a k b : ℕ) → b < a → IsAbove b (rows_from known f a k)
above known f a zero b lt = tt
above known f a (suc k) b lt = above_row known (f a) a b (rows_from known f (a + 1) k) lt (above known f (a + 1) k b (omega (arith, lt)))

ascending_row : (known : Known) (part : List ExplainedStay) (a : ℕ) (rest : List table.Row) → IsAbove a rest → IsAscending rest → IsAscending (row_for known a part ++ rest)
ascending_row known [] a rest above up = rw (row_none known a) up
ascending_row known (s ∷ ss) a rest above up = rw (row_cons known a s ss) (above, up)

ascending_from : (known : Known) (f : ℕ → List ExplainedStay) (a k : ℕ) → IsAscending (rows_from known f a k)
ascending_from known f a zero = tt
ascending_from known f a (suc k) = ascending_row known (f a) a (rows_from known f (a + 1) k) (above known f (a + 1) k a (omega arith)) (ascending_from known f (a + 1) k)

-- the numbers of a table's rows ascend
pub ascending : (known : Known) (by : Grouping) (stays : List ExplainedStay) → IsAscending (table_of known by stays)
unfolding table_of
ascending known by stays = ascending_from known (stays_of by stays) 0 (greatest by stays + 1)
