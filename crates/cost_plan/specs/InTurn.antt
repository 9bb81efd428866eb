-- Stays of one device and one weight that are sent in turn.
use Rattle.std.specs.Prelude.{◌≡◌, ℕ, ◌<◌, ◌≤◌, ◌⊎◌, ◌==◌, ◌&&◌, Bool, count_by}
use Rattle.std.specs.List.{range_with_len}
use Rattle.cost_plan.specs.declared.turns.exchange.TheConstants.{FEW_STAYS}
use Rattle.cost_plan.specs.Words.{Instance}

-- two stays are of one device and one weight
abbrev pub AreAlike : Instance → ℕ → ℕ → Type 0
AreAlike net s t = (net.device s ≡ net.device t) × (net.weight s ≡ net.weight t)

-- a stay's turn comes before another's: it was sent in an earlier round, or in the same one and is of the lesser number
abbrev pub ComesBefore : (ℕ → ℕ) → ℕ → ℕ → Type 0
ComesBefore live s t = (live s < live t) ⊎ ((live s ≡ live t) × (s < t))

-- each could be sent in the other's round
abbrev pub CouldChange : Instance → (ℕ → ℕ) → ℕ → ℕ → Type 0
CouldChange net f s t = (net.arrival s ≤ f t) × (f t ≤ net.last s) × (net.arrival t ≤ f s) × (f s ≤ net.last t)

-- whether a stay is of this device and this weight
abbrev pub is_of : Instance → ℕ → ℕ → ℕ → Bool
is_of net device weight s = (net.device s == device) && (net.weight s == weight)

-- The stays of a device and a weight may be out of turn: there are more than 4,096 of them, and the window of one ends before
-- the last round.
pub record AreSpared (net : Instance) (device weight : ℕ) : Type 0 where
  pub many : FEW_STAYS < count_by (is_of net device weight) (range_with_len 0 net.stays)
  pub stay : ℕ
  pub within : stay < net.stays
  pub of_device : net.device stay ≡ device
  pub of_weight : net.weight stay ≡ weight
  pub ends : net.last stay < net.rounds

-- of two stays of one device and one weight that could change rounds, the one whose turn comes first isn't sent later, except
-- where such stays are spared
abbrev pub TakesTurns : Instance → (ℕ → ℕ) → (ℕ → ℕ) → Type 0
TakesTurns net live f = (s t : ℕ) → s < net.stays → t < net.stays → AreAlike net s t → ¬ AreSpared net (net.device s) (net.weight s) → ComesBefore live s t → CouldChange net f s t → f s ≤ f t
