-- The parts of a plan: the adapters on one link make a part, and an adapter on no link makes one alone. A part goes by its
-- least adapter.
use Rattle.std.specs.Prelude.{◌≡◌, ◌≢◌, ℕ, ◌+◌, ◌-◌, ◌*◌, ◌<◌, ◌≤◌, ◌==◌, nat_lt, if◌then◌else◌, Bool, false, List, [], ◌∷◌, length, map, filter, replicate, slice_index, unwrap_or, Option, Result, Ok, MatchOption}
use Rattle.std.specs.List.{find, range_with_len}
use Rattle.std.specs.Option.{option_map_or, IfSome, IfNone}
use Rattle.std.specs.declared.alloc.AllocError.{AllocError}
use Rattle.negative_cycle.specs.PotentialTable.{begun}
use Rattle.cost_plan.specs.Words.{count_below, Instance, adapter, rows, IsAdmissible}
use Rattle.cost_plan.specs.Cells.{cell, root, node_count, rounds_of}
use Rattle.cost_plan.specs.declared.begin.Start.{Start}
use Rattle.cost_plan.specs.declared.part.Part.{Part}

-- whether an adapter is on a link
abbrev pub is_on : Instance → ℕ → ℕ → Bool
is_on net l a = option_map_or (λ k. k == l) (net.link_of a) false

-- the least adapter on a link, and the number past all adapters where there is none
abbrev pub least_on : Instance → ℕ → ℕ
least_on net l = unwrap_or (find (is_on net l) (range_with_len 0 net.adapters)) net.adapters

-- the part of an adapter, and of a stay
abbrev pub part_of : Instance → ℕ → ℕ
part_of net a = option_map_or (least_on net) (net.link_of a) a

abbrev pub part_of_stay : Instance → ℕ → ℕ
part_of_stay net s = part_of net (adapter net s)

-- the part of a resource: a device's is that of its adapter, an adapter's its own, and a link's that of the adapters on it
abbrev pub part_of_resource : Instance → ℕ → ℕ
part_of_resource net resource =
    if nat_lt resource net.devices then part_of net (net.adapter_of resource)
    else (if nat_lt (resource - net.devices) net.adapters then part_of net (resource - net.devices)
    else least_on net (resource - net.devices - net.adapters))

-- how many of the first stays are of the part
abbrev pub before : Instance → ℕ → ℕ → ℕ
before net a n = count_below n (λ s. part_of_stay net s == a)

-- how many of the first resources are of the part
abbrev pub resources_before : Instance → ℕ → ℕ → ℕ
resources_before net a n = count_below n (λ resource. part_of_resource net resource == a)

-- where the potential of a cell of the part stands among the part's own potentials, which are those of its resources, in order
abbrev pub potential_place : Instance → ℕ → ℕ → ℕ → ℕ
potential_place net a resource round = resources_before net a resource * (net.rounds + 1) + round

-- a stay of the net is of the part
pub record HasStay (net : Instance) (a : ℕ) : Type 0 where
  pub stay : ℕ
  pub within : stay < net.stays
  pub is : part_of_stay net stay ≡ a

-- the parts that have a stay, in order
abbrev pub busy_parts : Instance → List ℕ
busy_parts net = filter (λ a. nat_lt 0 (before net a net.stays)) (range_with_len 0 net.adapters)

-- The first stays of the part have its rounds, in order, as long as there are some, and all others have their old ones.
pub record IsPutIn (net : Instance) (a n : ℕ) (own_rounds old new : List ℕ) : Type 0 where
  pub own : (s : ℕ) → s < n → part_of_stay net s ≡ a → before net a s < length own_rounds → slice_index new s ≡ slice_index own_rounds (before net a s)
  pub others : (s : ℕ) → s < length old → (part_of_stay net s ≡ a → length own_rounds ≤ before net a s) → slice_index new s ≡ slice_index old s

-- The resource's cells before a round have these potentials, in order, as long as there are some, and all other nodes have their old
-- ones.
pub record ResourceHasPotentials (net : Instance) (resource n : ℕ) (potentials old new : List ℕ) : Type 0 where
  pub own : (round : ℕ) → round < n → round < length potentials → slice_index new (cell net resource round) ≡ slice_index potentials round
  pub others : (node : ℕ) → ((round : ℕ) → round < n → round < length potentials → node ≢ cell net resource round) → slice_index new node ≡ slice_index old node

-- The cells of the part's first resources have its potentials, in order, as long as there are some, and all others and the root have
-- their old ones.
pub record HasPotentials (net : Instance) (a n : ℕ) (own_potentials old new : List ℕ) : Type 0 where
  pub own : (resource round : ℕ) → resource < n → round ≤ net.rounds → part_of_resource net resource ≡ a → potential_place net a resource round < length own_potentials → slice_index new (cell net resource round) ≡ slice_index own_potentials (potential_place net a resource round)
  pub others : (resource round : ℕ) → resource < rows net → round ≤ net.rounds → (part_of_resource net resource ≡ a → length own_potentials ≤ potential_place net a resource round) → slice_index new (cell net resource round) ≡ slice_index old (cell net resource round)
  pub root : slice_index new (root net) ≡ slice_index old (root net)

-- a part was put in, if there is one; the rounds and potentials are as they were if there is none
pub record IsPut (net : Instance) (found : Option Part) (rounds potentials new_rounds new_potentials : List ℕ) : Type 0 where
  pub own_rounds : IfSome found (λ (p : Part). IsPutIn net p.adapter net.stays p.guess.rounds.items rounds new_rounds)
  pub own_potentials : IfSome found (λ (p : Part). HasPotentials net p.adapter (rows net) p.guess.potentials.items potentials new_potentials)
  pub same_rounds : IfNone found (new_rounds ≡ rounds)
  pub same_potentials : IfNone found (new_potentials ≡ potentials)

-- these were put in, one after the other
abbrev pub ArePut : Instance → List (Option Part) → List ℕ → List ℕ → List ℕ → List ℕ → Type 0
ArePut net [] rounds potentials new_rounds new_potentials = (new_rounds ≡ rounds) × (new_potentials ≡ potentials)
ArePut net (found ∷ rest) rounds potentials new_rounds new_potentials =
    (next_rounds : List ℕ) × (next_potentials : List ℕ) × IsPut net found rounds potentials next_rounds next_potentials × ArePut net rest next_rounds next_potentials new_rounds new_potentials

-- all of these were made, and were put in, one after the other
pub record AreAllPut (net : Instance) (parts : List (Result (Option Part) AllocError)) (rounds potentials new_rounds new_potentials : List ℕ) : Type 0 where
  pub founds : List (Option Part)
  pub made : parts ≡ map Ok founds
  pub put : ArePut net founds rounds potentials new_rounds new_potentials

-- a start has these rounds and potentials; there is none only if the rounds don't keep windows and caps
abbrev pub IsStartOf : Instance → List ℕ → List ℕ → Option Start → Type 0
IsStartOf net rounds potentials start =
    MatchOption start (IsAdmissible net (rounds_of rounds) → ⊥) (λ (s : Start). (s.working.rounds.items ≡ rounds) × (s.potentials.potentials ≡ map (begun net.max_price) potentials))

-- what comes of parts that were put in, one after the other, over the live rounds and potentials 0
pub record IsTogether (net : Instance) (live : ℕ → ℕ) (parts : List (Result (Option Part) AllocError)) (start : Option Start) : Type 0 where
  pub first : List ℕ
  pub lived : (s : ℕ) → s < net.stays → slice_index first s ≡ live s
  pub rounds : List ℕ
  pub potentials : List ℕ
  pub put : AreAllPut net parts first (replicate (node_count net) 0) rounds potentials
  pub starts : IsStartOf net rounds potentials start
