-- What raising potentials by what can be changed does.
use Rattle.std.specs.Prelude.{◌≡◌, ℕ, ◌<◌, ◌≤◌, ◌⊎◌, Option, Some, None, length}
use Rattle.cost_plan.specs.Words.{Arc, came_by, PotentialTable, potential_of, limit, IsSettled, Instance, load}
use Rattle.cost_plan.specs.Residual.{IsResidual, move_arc, take_arc, give_arc}

-- Potentials rise, by arcs of what can be changed alone. Where no node is named they are as they were; a node that is named rose,
-- or is past the limit.
pub record Raises (net : Instance) (f : ℕ → ℕ) (old new : PotentialTable) (found : Option ℕ) : Type 0 where
  pub size : length new.potentials ≡ length old.potentials
  pub most : new.most ≡ old.most
  pub rises : (node : ℕ) → potential_of old node ≤ potential_of new node
  pub quiet : found ≡ None → new ≡ old
  pub inside : (node : ℕ) → found ≡ Some node → node < length old.potentials
  pub rose : (node : ℕ) → found ≡ Some node → (potential_of old node < potential_of new node) ⊎ (limit old < potential_of new node)
  pub came : (node : ℕ) (arc : Arc) → came_by new.preds node ≡ Some arc → (came_by old.preds node ≡ Some arc) ⊎ IsResidual net f arc

-- potentials rose by arcs of what can be changed alone
abbrev pub AllResidual : Instance → (ℕ → ℕ) → PotentialTable → Type 0
AllResidual net f l = (node : ℕ) (arc : Arc) → came_by l.preds node ≡ Some arc → IsResidual net f arc

-- the potentials settle a move of a stay; each move of it; what a cell may take and give; all cells of a resource
abbrev pub SettlesMove : Instance → (ℕ → ℕ) → ℕ → PotentialTable → ℕ → Type 0
SettlesMove net f stay l round = IsSettled l (move_arc net f stay round)

abbrev pub SettlesMoves : Instance → (ℕ → ℕ) → PotentialTable → ℕ → Type 0
SettlesMoves net f l stay = (round : ℕ) → net.arrival stay ≤ round → round ≤ net.last stay → SettlesMove net f stay l round

abbrev pub SettlesTake : Instance → (ℕ → ℕ) → PotentialTable → ℕ → ℕ → Type 0
SettlesTake net f l resource round = load net f resource round < net.cap resource round → IsSettled l (take_arc net resource round)

abbrev pub SettlesGive : Instance → (ℕ → ℕ) → PotentialTable → ℕ → ℕ → Type 0
SettlesGive net f l resource round = 0 < load net f resource round → IsSettled l (give_arc net resource round)

abbrev pub SettlesCell : Instance → (ℕ → ℕ) → ℕ → PotentialTable → ℕ → Type 0
SettlesCell net f resource l round = SettlesTake net f l resource round × SettlesGive net f l resource round

abbrev pub SettlesResource : Instance → (ℕ → ℕ) → PotentialTable → ℕ → Type 0
SettlesResource net f l resource = (round : ℕ) → 1 ≤ round → round ≤ net.rounds → SettlesCell net f resource l round

-- So far in a loop potentials have risen; where none has, those at the beginning settle each part up to here.
pub record IsRaising (net : Instance) (f : ℕ → ℕ) (Settles : PotentialTable → ℕ → Type 0) (low : ℕ) (initial now : PotentialTable) (found : Option ℕ) (here : ℕ) : Type 0 where
  pub raises : Raises net f initial now found
  pub settled : found ≡ None → (k : ℕ) → low ≤ k → k < here → Settles initial k
