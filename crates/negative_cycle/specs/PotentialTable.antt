-- potentials on the nodes of a graph
use Rattle.std.specs.Prelude.{◌≡◌, ℕ, ◌+◌, ◌-◌, ◌*◌, ◌/◌, ◌<◌, ◌≤◌, nat_le, Bool, if◌then◌else◌, List, Option, Some, None, length, slice_index, slice_set, ◌⊎◌}
use Rattle.negative_cycle.specs.Walks.{came_by, Arc}
pub use Rattle.negative_cycle.specs.declared.potentials.TheConstants.{MAX_POTENTIAL}

-- the most that a potential rises to, a potential for each node, and the arc by which it last rose
pub record PotentialTable : Type 0 where
  pub most : ℕ
  pub potentials : List ℕ
  pub preds : List (Option Arc)

-- the potential of a node
abbrev pub potential_of : PotentialTable → ℕ → ℕ
potential_of l node = slice_index l.potentials node

-- the potentials settle the arc: what its tail has and it gains is no more than what its head has and it loses
abbrev pub IsSettled : PotentialTable → Arc → Type 0
IsSettled l arc = potential_of l arc.tail + arc.up ≤ potential_of l arc.head + arc.down

abbrev pub settles : PotentialTable → Arc → Bool
settles l arc = nat_le (potential_of l arc.tail + arc.up) (potential_of l arc.head + arc.down)

-- what the head of the arc needs, for the arc to be settled
abbrev pub needed : PotentialTable → Arc → ℕ
needed l arc = potential_of l arc.tail + arc.up - arc.down

-- the most that a potential is where the potentials begin to rise: half of the most that they rise to
abbrev pub highest_root : ℕ → ℕ
highest_root most = most / 2

-- a potential where it begins to rise
abbrev pub begun : ℕ → ℕ → ℕ
begun most potential = if nat_le potential (highest_root most) then potential else highest_root most

-- The most that a potential is where walks back from it end, none of them in a circle: such a walk gains at most a quarter of the
-- most.
abbrev pub limit : PotentialTable → ℕ
limit l = highest_root l.most + l.most / 4

-- the potentials, once an arc that they don't settle has raised its head
unfoldable pub relaxed : PotentialTable → Arc → PotentialTable
relaxed l arc =
    if settles l arc then l else (if nat_le (needed l arc) l.most then record { most = l.most; potentials = slice_set l.potentials arc.head (needed l arc); preds = slice_set l.preds arc.head (Some arc) } else l)

-- the node that it raised; where the potential would pass the most, the tail, whose potential is then past the limit
unfoldable pub raised : PotentialTable → Arc → Option ℕ
raised l arc = if settles l arc then None else (if nat_le (needed l arc) l.most then Some arc.head else Some arc.tail)

-- Since the potential of the node rose by the arc, the tail's may have risen further, or else the tail ranks below it.
pub record IsRisenBy (most : ℕ) (potentials : List ℕ) (rank : ℕ → ℕ) (node : ℕ) (arc : Arc) : Type 0 where
  pub heads : arc.head ≡ node
  pub tails : arc.tail < length potentials
  pub steep : arc.up * length potentials ≤ most / 4
  pub slack : slice_index potentials node + arc.down ≤ slice_index potentials arc.tail + arc.up
  pub later : (slice_index potentials node + arc.down < slice_index potentials arc.tail + arc.up) ⊎ (rank arc.tail < rank node)

-- how potentials that rise by arcs lie
pub record IsForest (most : ℕ) (potentials : List ℕ) (preds : List (Option Arc)) : Type 0 where
  pub rank : ℕ → ℕ
  pub lengths : length preds ≡ length potentials
  pub fits : most ≤ MAX_POTENTIAL
  pub risen : (node : ℕ) (arc : Arc) → came_by preds node ≡ Some arc → IsRisenBy most potentials rank node arc
  pub roots : (node : ℕ) → came_by preds node ≡ None → slice_index potentials node ≤ highest_root most
  pub below : (node : ℕ) → slice_index potentials node ≤ most
