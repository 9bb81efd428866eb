-- tables of values by row and round
use Rattle.std.proofs.Common.{◌≡◌, ℕ, ◌+◌, ◌-◌, ◌*◌, ◌/◌, ◌%◌, ◌<◌, ◌≤◌, List, length, refl, sym, ap, ◌∙◌, arith, zero-add, slice_index, All, ext_get_or}
use Rattle.std.proofs.lemmas.Nat.{div-mul-add, mod-mul-add}
use Rattle.std.proofs.Math.Nat.{div-lt_iff_lt-mul, mod-lt, mod-eq-sub-div-mul, div-mul-le_self}
use Rattle.std.proofs.lemmas.List.FromFn.{get_or-map-range_with_len, length-map-range_with_len}
use Rattle.std.proofs.lemmas.List.Elements.{All-from_get_or}
use Rattle.round_net.specs.Rows.{cell}
use Rattle.round_net.specs.Nets.{cells, table}
use Rattle.round_net.proofs.CellLemmas.{cell_within}

-- the row and the round of a place
pub row_of_place : (rows rounds at : ℕ) → 1 ≤ rounds → at < rows * rounds → at / rounds < rows
row_of_place rows rounds at some lt = (div-lt_iff_lt-mul some).1 lt

pub round_of_place : (rounds at : ℕ) → 1 ≤ rounds → at % rounds + 1 ≤ rounds
round_of_place rounds at some = let lt : at % rounds < rounds = mod-lt at some in omega arith

pub cell_of_place : (rounds at : ℕ) → cell rounds (at / rounds) (at % rounds + 1) ≡ at
cell_of_place rounds at = omega (arith, mod-eq-sub-div-mul at rounds, div-mul-le_self at rounds)

pub length-cells : (rounds : ℕ) (value : ℕ → ℕ → ℕ) (n : ℕ) → length (cells rounds value n) ≡ n
unfolding cells
length-cells rounds value n = length-map-range_with_len (λ at. value (at / rounds) (at % rounds + 1)) 0 n

get_or-cells : (rounds : ℕ) (value : ℕ → ℕ → ℕ) (n at : ℕ) → at < n → slice_index (cells rounds value n) at ≡ value (at / rounds) (at % rounds + 1)
unfolding cells
get_or-cells rounds value n at lt = get_or-map-range_with_len (λ at. value (at / rounds) (at % rounds + 1)) 0 n at at 0 lt (zero-add at)

-- what stands at a row's round is its value
pub cell-table : (rows rounds : ℕ) (value : ℕ → ℕ → ℕ) (row r : ℕ) → row < rows → 1 ≤ r → r ≤ rounds → slice_index (table rows rounds value) (cell rounds row r) ≡ value row r
cell-table rows rounds value row r within first last =
    let lt : r - 1 < rounds = omega arith in
    let d : cell rounds row r / rounds ≡ row = div-mul-add row rounds (r - 1) lt in
    let m : cell rounds row r % rounds ≡ r - 1 = mod-mul-add row rounds (r - 1) lt in
    let back : r - 1 + 1 ≡ r = omega arith in
    get_or-cells rounds value (rows * rounds) (cell rounds row r) (cell_within rounds rows row r within first last) ∙ rw (d, m, back) refl

-- what holds of each row's value in each round holds of all values
pub All-table : (P : ℕ → Type 0) (rows rounds : ℕ) (value : ℕ → ℕ → ℕ) → 1 ≤ rounds → ((row r : ℕ) → row < rows → 1 ≤ r → r ≤ rounds → P (value row r)) → All P (table rows rounds value)
All-table P rows rounds value some h =
    All-from_get_or P (table rows rounds value) 0 (λ i lt.
    let within : i < rows * rounds = omega (arith, length-cells rounds value (rows * rounds)) in
    rw (get_or-cells rounds value (rows * rounds) i within) (h (i / rounds) (i % rounds + 1) (row_of_place rows rounds i some within) (omega arith) (round_of_place rounds i some)))

-- values that are each row's in each round are the table
pub table_by_cells : (rows rounds : ℕ) (value : ℕ → ℕ → ℕ) (xs : List ℕ) → 1 ≤ rounds → length xs ≡ rows * rounds → ((row r : ℕ) → row < rows → 1 ≤ r → r ≤ rounds → slice_index xs (cell rounds row r) ≡ value row r) → xs ≡ table rows rounds value
table_by_cells rows rounds value xs some count h =
    ext_get_or 0 xs (table rows rounds value) (omega (arith, count, length-cells rounds value (rows * rounds))) (λ i lt.
    let within : i < rows * rounds = omega (arith, count) in
    let row = row_of_place rows rounds i some within in
    let here : cell rounds (i / rounds) (i % rounds + 1) ≡ i = cell_of_place rounds i in
    ap (slice_index xs) (sym here) ∙ h (i / rounds) (i % rounds + 1) row (omega arith) (round_of_place rounds i some) ∙ sym (get_or-cells rounds value (rows * rounds) i within))
