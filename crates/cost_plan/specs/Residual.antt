-- What can be changed in a schedule, as arcs between cells: a stay moves to another round, a cell takes one stay more, or
-- gives one up.
use Rattle.std.specs.Prelude.{◌≡◌, ℕ, ◌+◌, ◌*◌, ◌%◌, ◌<◌, ◌≤◌, ◌⊎◌, List, Option, Some, None, fold, slice_set, All}
use Rattle.cost_plan.specs.Words.{Arc, Instance, rows, load}
use Rattle.cost_plan.specs.Cells.{cell, above}

-- a stay moves from its round to another: what it waited is gained, what it will wait is lost
abbrev pub move_arc : Instance → (ℕ → ℕ) → ℕ → ℕ → Arc
move_arc net f stay round = record {
  tail = cell net (net.device stay) (f stay);
  head = cell net (net.device stay) round;
  up = net.weight stay * f stay;
  down = net.weight stay * round;
  mark = Some stay;
}

-- a cell takes one stay more
abbrev pub take_arc : Instance → ℕ → ℕ → Arc
take_arc net resource round = record { tail = cell net resource round; head = above net resource round; up = 0; down = 0; mark = None }

-- a cell gives one stay up
abbrev pub give_arc : Instance → ℕ → ℕ → Arc
give_arc net resource round = record { tail = above net resource round; head = cell net resource round; up = 0; down = 0; mark = None }

-- a stay may move within its window
pub record IsMove (net : Instance) (f : ℕ → ℕ) (arc : Arc) : Type 0 where
  pub stay : ℕ
  pub round : ℕ
  pub is : arc ≡ move_arc net f stay round
  pub within : stay < net.stays
  pub not_early : net.arrival stay ≤ round
  pub not_late : round ≤ net.last stay

-- a cell may take one more while its cap isn't reached
pub record IsTake (net : Instance) (f : ℕ → ℕ) (arc : Arc) : Type 0 where
  pub resource : ℕ
  pub round : ℕ
  pub is : arc ≡ take_arc net resource round
  pub within : resource < rows net
  pub first : 1 ≤ round
  pub last : round ≤ net.rounds
  pub room : load net f resource round < net.cap resource round

-- a cell may give one up while it has one
pub record IsGive (net : Instance) (f : ℕ → ℕ) (arc : Arc) : Type 0 where
  pub resource : ℕ
  pub round : ℕ
  pub is : arc ≡ give_arc net resource round
  pub within : resource < rows net
  pub first : 1 ≤ round
  pub last : round ≤ net.rounds
  pub some : 0 < load net f resource round

-- the arcs of what can be changed
abbrev pub IsResidual : Instance → (ℕ → ℕ) → Arc → Type 0
IsResidual net f arc = IsMove net f arc ⊎ (IsTake net f arc ⊎ IsGive net f arc)

-- the rounds of the stays, once the marked one is in this round
abbrev pub put_in : List ℕ → ℕ → Option ℕ → List ℕ
put_in rounds round (Some stay) = slice_set rounds stay round
put_in rounds round None = rounds

-- the rounds of the stays, once a change is made
abbrev pub changed : Instance → List ℕ → Arc → List ℕ
changed net rounds arc = put_in rounds (arc.head % (net.rounds + 1)) arc.mark

-- the same, once all are made
abbrev pub changed_all : Instance → List ℕ → List Arc → List ℕ
changed_all net rounds arcs = fold (changed net) rounds arcs

-- each change moves a stay of the net, or none
abbrev pub MarksWithin : ℕ → List Arc → Type 0
MarksWithin n arcs = All (λ arc. (stay : ℕ) → arc.mark ≡ Some stay → stay < n) arcs
