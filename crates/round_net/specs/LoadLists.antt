-- how many stays use each row in each round, as a flat list
use Rattle.std.specs.Prelude.{◌≡◌, ℕ, ◌*◌, ◌==◌, ◌<◌, ◌≤◌, ◌&&◌, cond, List, length, slice_index, sum_by}
use Rattle.round_net.specs.Sums.{count_below}
use Rattle.round_net.specs.Instance.{Instance, rows, path, uses}
use Rattle.round_net.specs.Rows.{cell}

-- a round of each stay is one of the net's
abbrev pub AreRounds : Instance → (ℕ → ℕ) → Type 0
AreRounds net f = (s : ℕ) → s < net.stays → (1 ≤ f s) × (f s ≤ net.rounds)

-- the list has a count for each round of each row: of the first n stays, those that use the row and are in the round
pub record AreLoads (net : Instance) (f : ℕ → ℕ) (n : ℕ) (counts : List ℕ) : Type 0 where
  pub cells : length counts ≡ rows net * net.rounds
  pub each : (row r : ℕ) → row < rows net → 1 ≤ r → r ≤ net.rounds → slice_index counts (cell net.rounds row r) ≡ count_below n (λ s. uses net row s && (f s == r))

-- how many of the rows that a stay uses have this round of theirs at a place of the list
abbrev pub cells_at : Instance → ℕ → ℕ → ℕ → ℕ
cells_at net s r at = sum_by (λ row. cond (cell net.rounds row r == at) 1 0) (path net s)
