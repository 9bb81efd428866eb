-- what openings are worth in closed form, in a flat list
use Rattle.std.specs.Prelude.{◌≡◌, ◌≢◌, ℕ, ◌+◌, ◌-◌, ◌*◌, ◌≤◌, List, length, get_or, slice_index, Option, Some, None}
use Rattle.cam_types.specs.declared.limits.TheConstants.{MAX_WEIGHT}
use Rattle.round_net.specs.Instance.{Instance}
use Rattle.round_net.specs.Rows.{cell}

-- what stands in a list for a device's opening in a round
abbrev pub worth_at : Instance → List ℕ → ℕ → ℕ → ℕ
worth_at net worth d r = slice_index worth (cell net.rounds d r)

-- it is nothing if nobody waits, and else what the first who waits costs until it goes, and what an opening is worth then
abbrev pub IsWorth : Instance → (ℕ → ℕ) → ℕ → List ℕ → ℕ → Option ℕ → Type 0
IsWorth net f d worth r None = worth_at net worth d r ≡ 0
IsWorth net f d worth r (Some h) = worth_at net worth d r ≡ net.weight h * (f h - r) + worth_at net worth d (f h)

-- none is above what the longest wait of the greatest weight costs
abbrev pub IsSmallWorth : Instance → List ℕ → Type 0
IsSmallWorth net worth = (at : ℕ) → slice_index worth at ≤ MAX_WEIGHT * net.rounds

-- the device has such numbers in all its rounds, and all others are as they were
pub record IsFilled (net : Instance) (f : ℕ → ℕ) (d : ℕ) (firsts : List (Option ℕ)) (old new : List ℕ) : Type 0 where
  pub long : length new ≡ length old
  pub own : (r : ℕ) → 1 ≤ r → r ≤ net.rounds → IsWorth net f d new r (get_or firsts r None)
  pub others : (row r : ℕ) → row ≢ d → 1 ≤ r → r ≤ net.rounds → worth_at net new row r ≡ worth_at net old row r
  pub small : IsSmallWorth net old → IsSmallWorth net new
