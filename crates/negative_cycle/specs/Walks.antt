-- walks along arcs
use Rattle.std.specs.Prelude.{◌≡◌, ℕ, ◌<◌, ◌≤◌, ◌==◌, List, [], ◌∷◌, Option, Some, None, length, slice_index_or, All, sum_by, count_by}
pub use Rattle.negative_cycle.specs.declared.arc.Arc.{Arc}

-- the arcs, each of which ends where the one before it begins: walked backwards, from one node to another
abbrev pub LeadsBack : ℕ → List Arc → ℕ → Type 0
LeadsBack from [] to = from ≡ to
LeadsBack from (arc ∷ arcs) to = (arc.head ≡ from) × LeadsBack arc.tail arcs to

-- A closed walk that comes to no node twice, and gains more than it loses.
pub record IsGainingCycle (arcs : List Arc) : Type 0 where
  pub at : ℕ
  pub closed : LeadsBack at arcs at
  pub once : (node : ℕ) → count_by (λ arc. arc.head == node) arcs ≤ 1
  pub gains : sum_by (λ arc. arc.down) arcs < sum_by (λ arc. arc.up) arcs

-- the arc by which the potential of a node last rose
abbrev pub came_by : List (Option Arc) → ℕ → Option Arc
came_by preds node = slice_index_or preds node None

-- each arc is the one by which the potential of its head last rose
abbrev pub AllCameBy : List (Option Arc) → List Arc → Type 0
AllCameBy preds arcs = All (λ arc. came_by preds arc.head ≡ Some arc) arcs

-- a closed walk along such arcs that comes to no node twice
pub record IsLoop (preds : List (Option Arc)) (arcs : List Arc) : Type 0 where
  pub at : ℕ
  pub some : 0 < length arcs
  pub closed : LeadsBack at arcs at
  pub once : (node : ℕ) → count_by (λ arc. arc.head == node) arcs ≤ 1
  pub came : AllCameBy preds arcs

-- a walk back along such arcs to a node whose potential has not risen
pub record EndsAtRoot (preds : List (Option Arc)) (start : ℕ) (arcs : List Arc) : Type 0 where
  pub root : ℕ
  pub within : root < length preds
  pub leads : LeadsBack start arcs root
  pub risen : came_by preds root ≡ None
  pub short : length arcs ≤ length preds
  pub came : AllCameBy preds arcs
