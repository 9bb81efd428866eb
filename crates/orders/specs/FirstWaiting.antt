-- who waits first at a device after each round
use Rattle.std.specs.Prelude.{◌≡◌, ◌≢◌, ℕ, ◌<◌, ◌≤◌, ◌⊎◌, List, length, get_or, slice_index, Option, Some, None}
use Rattle.round_net.specs.Instance.{Instance}
use Rattle.orders.specs.ClosedPrices.{IsFirstAfter, IsNobodyAfter}

-- it is the one that goes before all others that wait there after the round, or nobody if none waits
abbrev pub IsFirstOrNobody : Instance → (ℕ → ℕ) → ℕ → ℕ → Option ℕ → Type 0
IsFirstOrNobody net f d r None = IsNobodyAfter net f d r
IsFirstOrNobody net f d r (Some h) = IsFirstAfter net f d r h

-- so it stands in a list for each round
abbrev pub AreFirsts : Instance → (ℕ → ℕ) → ℕ → List (Option ℕ) → Type 0
AreFirsts net f d firsts = (r : ℕ) → 1 ≤ r → r ≤ net.rounds → IsFirstOrNobody net f d r (get_or firsts r None)

-- somebody stands in a round
abbrev pub IsTaken : List (Option ℕ) → ℕ → Type 0
IsTaken firsts r = get_or firsts r None ≢ None

-- For each round there is one not before it, and all rounds between are taken; if it is the round itself, that is free.
pub record Skips (firsts : List (Option ℕ)) (next : List ℕ) : Type 0 where
  pub long : length next ≡ length firsts
  pub within : (r : ℕ) → r < length firsts → slice_index next r < length firsts
  pub ahead : (r : ℕ) → r < length firsts → r ≤ slice_index next r
  pub taken : (r q : ℕ) → r < length firsts → r ≤ q → q < slice_index next r → IsTaken firsts q
  pub free : (r : ℕ) → r < length firsts → slice_index next r ≤ r → get_or firsts r None ≡ None

-- the stay has each free round from one on and before another; all other rounds are as they were
pub record Takes (old new : List (Option ℕ)) (from to stay : ℕ) : Type 0 where
  pub long : length new ≡ length old
  pub fresh : (r : ℕ) → from ≤ r → r < to → get_or old r None ≡ None → get_or new r None ≡ Some stay
  pub kept : (r : ℕ) → IsTaken old r → get_or new r None ≡ get_or old r None
  pub outside : (r : ℕ) → (r < from) ⊎ (to ≤ r) → get_or new r None ≡ get_or old r None
