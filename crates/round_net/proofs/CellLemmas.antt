-- where rounds stand in flat lists
use Rattle.std.proofs.Common.{◌≡◌, ℕ, ◌+◌, ◌-◌, ◌*◌, ◌/◌, ◌^◌, ◌<◌, ◌≤◌, arith, length, List, ap, sym, ◌∙◌}
use Rattle.std.proofs.lemmas.Nat.{mul-add-lt, mul-le, div-mul-add}
use Rattle.round_net.specs.declared.limits.TheConstants.{MAX_NET_ROUNDS}
use Rattle.round_net.specs.Rows.{NetRows, cell, instance_of_rows}
use Rattle.round_net.specs.Sound.{IsNet}
use Rattle.round_net.specs.PriceRows.{PriceRows, IsPriced}

-- a round of a row stands within the rows
pub cell_within : (rounds rows row r : ℕ) → row < rows → 1 ≤ r → r ≤ rounds → cell rounds row r < rows * rounds
cell_within rounds rows row r within first last =
    let lt : r - 1 < rounds = omega arith in
    let h : row * rounds + (r - 1) < rounds * rows = mul-add-lt row rounds (r - 1) rows within lt in
    omega arith

-- so it does in a list that has all of them
pub cell_in : (xs : List ℕ) (rounds rows row r : ℕ) → length xs ≡ rows * rounds → row < rows → 1 ≤ r → r ≤ rounds → cell rounds row r < length xs
cell_in xs rounds rows row r all within first last = omega (arith, cell_within rounds rows row r within first last)

-- few rounds of a row make no large number
pub product_fits : (row rounds : ℕ) → row < 2 ^ 32 → rounds ≤ MAX_NET_ROUNDS → row * rounds ≤ 2 ^ 32 * MAX_NET_ROUNDS
product_fits row rounds lt few =
    let le : row ≤ 2 ^ 32 = omega arith in
    mul-le row rounds (2 ^ 32) MAX_NET_ROUNDS le few

-- two rounds that stand at one place are of one row, and equal
pub cell-injective : (rounds row r other q : ℕ) → 1 ≤ r → r ≤ rounds → 1 ≤ q → q ≤ rounds → cell rounds row r ≡ cell rounds other q → (row ≡ other) × (r ≡ q)
cell-injective rounds row r other q r1 rn q1 qn e =
    let lt : r - 1 < rounds = omega arith in
    let lt' : q - 1 < rounds = omega arith in
    let rows : row ≡ other = sym (div-mul-add row rounds (r - 1) lt) ∙ ap (λ n. n / rounds) e ∙ div-mul-add other rounds (q - 1) lt' in
    let product : row * rounds ≡ other * rounds = ap (λ n. n * rounds) rows in
    (rows, omega arith)

-- a cell of the rows stands within a list that has them all
pub cell_room : (rows rounds row r at n : ℕ) → rows * rounds ≤ n → row < rows → 1 ≤ r → r ≤ rounds → at ≡ cell rounds row r → at < n
cell_room rows rounds row r at n all within first last is = omega (arith, cell_within rounds rows row r within first last)

-- a round of a net's row has a cap
pub cap_in : (n : NetRows) (row r : ℕ) → IsNet n → row < length n.adapter_of + length n.link_of + n.links → 1 ≤ r → r ≤ n.rounds → cell n.rounds row r < length n.caps
unfolding instance_of_rows
cap_in n row r is within first last = cell_in n.caps n.rounds (length n.adapter_of + length n.link_of + n.links) row r is.cells within first last

-- and a price
pub price_in : (p : PriceRows) (row r : ℕ) → IsPriced p → row < p.devices + p.adapters + p.links → 1 ≤ r → r ≤ p.rounds → cell p.rounds row r < length p.prices
price_in p row r is within first last = cell_in p.prices p.rounds (p.devices + p.adapters + p.links) row r is.cells within first last
