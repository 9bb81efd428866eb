-- how many stays use each row in each round so far
use Rattle.std.specs.Prelude.{◌≡◌, ℕ, ◌+◌, ◌==◌, ◌<◌, ◌≤◌, ◌&&◌, cond, List, slice_index}
use Rattle.std.specs.List.{list_any}
use Rattle.price_check.specs.Words.{count_below, Instance, rows, uses, cell}

-- The list has a count for each round of each row: of the stays before this one, those that use the row and are in the round.
pub record IsTally (net : Instance) (f : ℕ → ℕ) (counts : List ℕ) (s : ℕ) : Type 0 where
  pub each : (row r : ℕ) → row < rows net → 1 ≤ r → r ≤ net.rounds → slice_index counts (cell net.rounds row r) ≡ count_below s (λ t. uses net row t && (f t == r))

-- The same, but in some rows this stay is counted too.
pub record IsCounted (net : Instance) (f : ℕ → ℕ) (counts : List ℕ) (s : ℕ) (own : List ℕ) : Type 0 where
  pub each : (row r : ℕ) → row < rows net → 1 ≤ r → r ≤ net.rounds → slice_index counts (cell net.rounds row r) ≡ count_below s (λ t. uses net row t && (f t == r)) + cond (list_any (λ x. x == row) own && (f s == r)) 1 0
