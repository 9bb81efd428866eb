-- one price more in a flat list
use Rattle.std.proofs.Common.{◌≡◌, ◌≢◌, ℕ, ◌+◌, ◌<◌, ◌≤◌, refl, true, false, slice_set, ◌==◌, ◌&&◌, if◌then◌else◌, get_or-set_same, get_or-set_other}
use Rattle.std.proofs.lemmas.Bool.{and_parts, eqb-true, eq-eqb}
use Rattle.round_net.specs.Rows.{cell}
use Rattle.round_net.specs.PriceRows.{PriceRows, IsPriced, SetsPrice, pricing_of_rows}
use Rattle.round_net.proofs.CellLemmas.{cell_in, cell-injective}

prices-set : (p : PriceRows) (row r price : ℕ) → IsPriced p → row < p.devices + p.adapters + p.links → 1 ≤ r → r ≤ p.rounds → (other q : ℕ) → 1 ≤ q → q ≤ p.rounds →
    pricing_of_rows (record p { prices = slice_set p.prices (cell p.rounds row r) price }) other q ≡ (if (other == row) && (q == r) then price else pricing_of_rows p other q)
unfolding pricing_of_rows
prices-set p row r price is within first last other q q1 qn =
    let here = cell_in p.prices p.rounds (p.devices + p.adapters + p.links) row r is.cells within first last in
    let new : PriceRows = record p { prices = slice_set p.prices (cell p.rounds row r) price } in
    elim ((other == row) && (q == r)) as (λ b. ((other == row) && (q == r)) ≡ b → pricing_of_rows new other q ≡ (if b then price else pricing_of_rows p other q)) [
      | true ↦ λ e.
          let parts = and_parts (other == row) (q == r) e in
          let same_row : other ≡ row = eqb-true other row parts.0 in
          let same_round : q ≡ r = eqb-true q r parts.1 in
          rw (same_row, same_round) (get_or-set_same p.prices (cell p.rounds row r) price 0 here)
      | false ↦ λ e.
          let apart : cell p.rounds other q ≢ cell p.rounds row r = (λ at.
          let same = cell-injective p.rounds other q row r q1 qn first last at in
          let yes : ((other == row) && (q == r)) ≡ true = rw (eq-eqb other row same.0, eq-eqb q r same.1) refl in
          cc) in
          get_or-set_other p.prices (cell p.rounds row r) (cell p.rounds other q) price 0 apart
    ] refl

pub set_rows : (old new : PriceRows) (row r price : ℕ) → IsPriced old → row < old.devices + old.adapters + old.links → 1 ≤ r → r ≤ old.rounds → new ≡ record old { prices = slice_set old.prices (cell old.rounds row r) price } → SetsPrice old new row r price
set_rows old new row r price is within first last e = rw e (record { size = record { rounds = refl; devices = refl; adapters = refl; links = refl; max_price = refl }; prices = prices-set old row r price is within first last })
