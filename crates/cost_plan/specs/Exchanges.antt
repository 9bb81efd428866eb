-- Stays that change their rounds in pairs.
use Rattle.std.specs.Prelude.{◌≡◌, ℕ, ◌+◌, ◌*◌, ◌<◌, ◌≤◌, Bool, true, false, List, [], ◌∷◌, length, slice_index}
use Rattle.std.specs.List.Sorted.{IsPermutation}
use Rattle.cost_plan.specs.Turns.{HaveWindows}

-- how late the rounds are, each counted once for its stay and once for each later one
abbrev pub lateness : List ℕ → ℕ
lateness [] = 0
lateness (round ∷ rounds) = (length rounds + 1) * round + lateness rounds

-- two stays, of which the first comes first, are in turn
abbrev pub ArePairInTurn : List ℕ → List ℕ → ℕ → List ℕ → ℕ → Type 0
ArePairInTurn arrivals lasts i rounds j = slice_index arrivals i ≤ slice_index rounds j → slice_index rounds i ≤ slice_index lasts j → slice_index rounds i ≤ slice_index rounds j

-- a stay and all later ones are
abbrev pub IsInTurn : List ℕ → List ℕ → List ℕ → ℕ → Type 0
IsInTurn arrivals lasts rounds i = (j : ℕ) → i < j → j < length arrivals → ArePairInTurn arrivals lasts i rounds j

-- Pairs change rounds. If one did, the rounds are less late; if none did, the stays from one on and before another are in turn.
pub record Exchanges (arrivals lasts : List ℕ) (Settles : List ℕ → ℕ → Type 0) (low : ℕ) (old new : List ℕ) (changed : Bool) (here : ℕ) : Type 0 where
  pub long : length old ≡ length arrivals
  pub permutation : IsPermutation old new
  pub windows : HaveWindows arrivals lasts new
  pub quiet : changed ≡ false → new ≡ old
  pub settled : changed ≡ false → (k : ℕ) → low ≤ k → k < here → Settles old k
  pub earlier : changed ≡ true → lateness new < lateness old
