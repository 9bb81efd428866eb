-- schedules: a round for each stay
use Rattle.std.specs.Prelude.{ℕ, ◌-◌, ◌*◌, ◌==◌, ◌≤◌, ◌<◌, ◌&&◌}
use Rattle.round_net.specs.Sums.{sum_below, count_below}
use Rattle.round_net.specs.Instance.{Instance, rows, uses}

-- how many of the stays that use a row a schedule puts into a round
abbrev pub load : Instance → (ℕ → ℕ) → ℕ → ℕ → ℕ
load net f row r = count_below net.stays (λ s. uses net row s && (f s == r))

-- each stay lies in its window, and no row has more stays in a round than its cap
pub record IsAdmissible (net : Instance) (f : ℕ → ℕ) : Type 0 where
  pub not_early : (s : ℕ) → s < net.stays → net.arrival s ≤ f s
  pub not_late : (s : ℕ) → s < net.stays → f s ≤ net.last s
  pub rows_hold : (row r : ℕ) → row < rows net → 1 ≤ r → r ≤ net.rounds → load net f row r ≤ net.cap row r

-- the rounds that its stays wait, each by the stay's weight
abbrev pub cost : Instance → (ℕ → ℕ) → ℕ
cost net f = sum_below net.stays (λ s. net.weight s * (f s - net.arrival s))

-- some stay lies before its arrival, or none does
pub record IsEarly (net : Instance) (f : ℕ → ℕ) : Type 0 where
  pub stay : ℕ
  pub within : stay < net.stays
  pub early : f stay < net.arrival stay

abbrev pub IsNowhereEarly : Instance → (ℕ → ℕ) → Type 0
IsNowhereEarly net f = (s : ℕ) → s < net.stays → net.arrival s ≤ f s
