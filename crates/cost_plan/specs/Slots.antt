-- Slots: one for each stay, by their rounds. Those of the stays before a turn are given, and all others are free.
use Rattle.std.specs.Prelude.{◌≡◌, ℕ, ◌<◌, ◌≤◌, List, length, map, slice_index, slice_index_or}
use Rattle.cost_plan.specs.declared.turns.slots.Slot.{Slot}

-- a slot that isn't given
abbrev pub IsFree : List ℕ → ℕ → ℕ → Type 0
IsFree holders turn slot = (slot < length holders) × (turn ≤ slice_index holders slot)

-- all slots from one on and before another are given
abbrev pub AreGiven : List ℕ → ℕ → ℕ → ℕ → Type 0
AreGiven holders turn from to = (slot : ℕ) → from ≤ slot → slot < to → slice_index holders slot < turn

-- each slot has one after it, and those between are given
pub record Skips (holders : List ℕ) (turn : ℕ) (next : List ℕ) : Type 0 where
  pub long : length next ≡ length holders
  pub later : (slot : ℕ) → slot < length holders → slot < slice_index next slot
  pub given : (slot between : ℕ) → slot < length holders → slot < between → between < slice_index next slot → slice_index holders between < turn

-- The slots lie by their rounds. Each stay has one, and holds it.
pub record AreHeld (rounds sorted holders places : List ℕ) : Type 0 where
  pub long_sorted : length sorted ≡ length rounds
  pub long_holders : length holders ≡ length rounds
  pub long_places : length places ≡ length rounds
  pub ascending : (x y : ℕ) → x ≤ y → y < length rounds → slice_index sorted x ≤ slice_index sorted y
  pub holder : (slot : ℕ) → slot < length rounds → slice_index holders slot < length rounds
  pub place : (stay : ℕ) → stay < length rounds → slice_index places stay < length rounds
  pub holds : (stay : ℕ) → stay < length rounds → slice_index holders (slice_index places stay) ≡ stay
  pub placed : (slot : ℕ) → slot < length rounds → slice_index places (slice_index holders slot) ≡ slot
  pub has : (stay : ℕ) → stay < length rounds → slice_index sorted (slice_index places stay) ≡ slice_index rounds stay

-- a slot for each stay, in their order
pub record AreSlotsOf (rounds : List ℕ) (slots : List Slot) : Type 0 where
  pub long : length slots ≡ length rounds
  pub are : (stay : ℕ) (d : Slot) → stay < length rounds → slice_index_or slots stay d ≡ record { round = slice_index rounds stay; holder = stay }

-- what stands at a place among slots
abbrev pub round_at : List Slot → ℕ → ℕ
round_at slots place = slice_index (map (λ (slot : Slot). slot.round) slots) place

abbrev pub holder_at : List Slot → ℕ → ℕ
holder_at slots place = slice_index (map (λ (slot : Slot). slot.holder) slots) place

-- The slots of all stays lie by their rounds, each once.
pub record IsSorting (rounds : List ℕ) (slots : List Slot) : Type 0 where
  pub long : length slots ≡ length rounds
  pub ascending : (x y : ℕ) → x ≤ y → y < length rounds → round_at slots x ≤ round_at slots y
  pub holder : (place : ℕ) → place < length rounds → holder_at slots place < length rounds
  pub own : (place : ℕ) → place < length rounds → round_at slots place ≡ slice_index rounds (holder_at slots place)
  pub once : (x y : ℕ) → x < length rounds → y < length rounds → holder_at slots x ≡ holder_at slots y → x ≡ y
  pub all : (stay : ℕ) → stay < length rounds → (place : ℕ) × (place < length rounds) × (holder_at slots place ≡ stay)
