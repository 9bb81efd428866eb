-- Rounds for stays that come in the order of their turns.
use Rattle.std.specs.Prelude.{◌≡◌, ℕ, ◌<◌, ◌≤◌, ◌==◌, List, length, slice_index, count_by}
use Rattle.cost_plan.specs.declared.turns.exchange.TheConstants.{FEW_STAYS}

-- each round is that of as many stays here as there
abbrev pub HaveSameRounds : List ℕ → List ℕ → Type 0
HaveSameRounds old new = (round : ℕ) → count_by (λ r. r == round) new ≡ count_by (λ r. r == round) old

-- no stay has a round before it arrived
abbrev pub HaveArrived : List ℕ → List ℕ → Type 0
HaveArrived arrivals rounds = (i : ℕ) → i < length arrivals → slice_index arrivals i ≤ slice_index rounds i

-- no stay has a round past that of a later one if it had arrived by that
abbrev pub AreInTurn : List ℕ → List ℕ → Type 0
AreInTurn arrivals rounds = (i j : ℕ) → i < j → j < length arrivals → slice_index arrivals i ≤ slice_index rounds j → slice_index rounds i ≤ slice_index rounds j

-- each stay has a round within its window
abbrev pub HaveWindows : List ℕ → List ℕ → List ℕ → Type 0
HaveWindows arrivals lasts rounds = (i : ℕ) → i < length arrivals → (slice_index arrivals i ≤ slice_index rounds i) × (slice_index rounds i ≤ slice_index lasts i)

-- no stay has a round past that of a later one if each could have the other's
abbrev pub AreInTurnWithin : List ℕ → List ℕ → List ℕ → Type 0
AreInTurnWithin arrivals lasts rounds = (i j : ℕ) → i < j → j < length arrivals → slice_index arrivals i ≤ slice_index rounds j → slice_index rounds i ≤ slice_index lasts j → slice_index rounds i ≤ slice_index rounds j

-- there are more than a few stays, and one of them has a window that ends before the end of all
abbrev pub AreSpared : ℕ → List ℕ → Type 0
AreSpared end lasts = (FEW_STAYS < length lasts) × ((i : ℕ) × (i < length lasts) × (slice_index lasts i < end))
