-- The order in which stays take their turns: by device, by weight, by the live round, and by their numbers.
use Rattle.std.specs.Prelude.{◌≡◌, ℕ, ◌<◌, ◌≤◌, List, length, map, slice_index}
use Rattle.std.specs.List.{range_with_len}
use Rattle.std.specs.List.Sorted.{IsPermutation}
use Rattle.cost_plan.specs.declared.turns.exchange.TheConstants.{FEW_STAYS}
use Rattle.cost_plan.specs.Words.{Instance, IsAdmissible, cost}
use Rattle.cost_plan.specs.InTurn.{AreAlike, CouldChange, AreSpared}
use Rattle.cost_plan.specs.declared.turn_order.Turn.{Turn}

-- when a stay takes its turn
abbrev pub turn_of : Instance → (ℕ → ℕ) → ℕ → Turn
turn_of net live s = record { device = net.device s; weight = net.weight s; live = live s; stay = s }

-- the turns of all stays, in the order of their numbers
abbrev pub all_turns : Instance → (ℕ → ℕ) → List Turn
all_turns net live = map (turn_of net live) (range_with_len 0 net.stays)

-- a turn doesn't come after another
abbrev pub IsUpTo : Turn → Turn → Type 0
IsUpTo a b = (a.device ≤ b.device) × (a.device ≡ b.device → (a.weight ≤ b.weight) × (a.weight ≡ b.weight → (a.live ≤ b.live) × (a.live ≡ b.live → a.stay ≤ b.stay)))

-- the stays of a net, in this order
pub record IsTurnOrder (net : Instance) (live : ℕ → ℕ) (order : List ℕ) : Type 0 where
  pub all : IsPermutation (range_with_len 0 net.stays) order
  pub up : (i j : ℕ) → i ≤ j → j < net.stays → IsUpTo (turn_of net live (slice_index order i)) (turn_of net live (slice_index order j))

-- some stays of one device and one weight, each once
pub record IsKind (net : Instance) (members : List ℕ) : Type 0 where
  pub within : (k : ℕ) → k < length members → slice_index members k < net.stays
  pub once : (i j : ℕ) → i < length members → j < length members → slice_index members i ≡ slice_index members j → i ≡ j
  pub alike : (i j : ℕ) → i < length members → j < length members → AreAlike net (slice_index members i) (slice_index members j)

-- they are too many to be brought in turn in pairs, and the window of one ends before the last round
abbrev pub IsKindSpared : Instance → List ℕ → Type 0
IsKindSpared net members = (FEW_STAYS < length members) × ((k : ℕ) × (k < length members) × (net.last (slice_index members k) < net.rounds))

-- They have the rounds that they had, in turn, and all other stays are sent as before.
pub record IsKindTurned (net : Instance) (members old new : List ℕ) : Type 0 where
  pub long : length new ≡ length old
  pub admissible : IsAdmissible net (slice_index new)
  pub same_cost : cost net (slice_index new) ≡ cost net (slice_index old)
  pub others : (s : ℕ) → ((k : ℕ) → k < length members → slice_index members k ≡ s → ⊥) → slice_index new s ≡ slice_index old s
  pub in_turn : ¬ IsKindSpared net members → (i j : ℕ) → i < j → j < length members → CouldChange net (slice_index new) (slice_index members i) (slice_index members j) → slice_index new (slice_index members i) ≤ slice_index new (slice_index members j)

-- So far the stays before a place of the order are in turn, and none of them is like one from there on.
pub record AreTurned (net : Instance) (order old new : List ℕ) (place : ℕ) : Type 0 where
  pub long : length new ≡ length old
  pub admissible : IsAdmissible net (slice_index new)
  pub same_cost : cost net (slice_index new) ≡ cost net (slice_index old)
  pub apart : (i j : ℕ) → i < place → place ≤ j → j < net.stays → ¬ AreAlike net (slice_index order i) (slice_index order j)
  pub in_turn : (i j : ℕ) → i < j → j < place → AreAlike net (slice_index order i) (slice_index order j) → ¬ AreSpared net (net.device (slice_index order i)) (net.weight (slice_index order i)) → CouldChange net (slice_index new) (slice_index order i) (slice_index order j) → slice_index new (slice_index order i) ≤ slice_index new (slice_index order j)
