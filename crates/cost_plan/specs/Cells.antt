-- The cells of a net as the nodes of a graph, one for each resource and round, with one root above all.
use Rattle.std.specs.Prelude.{ℕ, zero, suc, ◌+◌, ◌*◌, ◌==◌, ◌-◌, nat_lt, Bool, cond, ◌&&◌, if◌then◌else◌, List, [], ◌∷◌, slice_index}
use Rattle.std.specs.List.{list_any}
use Rattle.std.specs.Option.{option_map_or}
use Rattle.cost_plan.specs.Words.{count_below, Instance, rows, adapter_resource, link_resource, uses}

-- the node of a resource and a round, where rounds begin at 1
abbrev pub cell : Instance → ℕ → ℕ → ℕ
cell net resource round = resource * (net.rounds + 1) + round

-- the root, as the node of the resource past all resources
abbrev pub root : Instance → ℕ
root net = cell net (rows net) 0

-- the resource above an adapter's: its link's, or the root's if it is on none
abbrev pub adapter_above : Instance → ℕ → ℕ
adapter_above net a = option_map_or (link_resource net) (net.link_of a) (rows net)

-- the resource above: a device's is its adapter's, and a link's is the root's
abbrev pub resource_above : Instance → ℕ → ℕ
resource_above net resource =
    if nat_lt resource net.devices then adapter_resource net (net.adapter_of resource)
    else (if nat_lt resource (net.devices + net.adapters) then adapter_above net (resource - net.devices)
    else rows net)

-- how many resources stand one above the other at most
abbrev pub levels : ℕ
levels = 3

-- a resource and those above it, the root's left out, and no more than that many in all
abbrev pub resources_up : ℕ → Instance → ℕ → List ℕ
resources_up zero net resource = []
resources_up (suc n) net resource = if nat_lt resource (rows net) then resource ∷ resources_up n net (resource_above net resource) else []

-- a resource is another, or stands anywhere above it
abbrev pub covers : Instance → ℕ → ℕ → Bool
covers net resource other = list_any (λ own. own == resource) (resources_up levels net other)

-- the node of a resource in a round, which past all resources is the root
abbrev pub node_of : Instance → ℕ → ℕ → ℕ
node_of net resource round = if nat_lt resource (rows net) then cell net resource round else root net

-- the node above a cell
abbrev pub above : Instance → ℕ → ℕ → ℕ
above net resource round = node_of net (resource_above net resource) round

-- 1 where the stay uses the resource and the one round is the other, and 0 elsewhere
abbrev pub stands : Instance → ℕ → ℕ → ℕ → ℕ → ℕ
stands net resource round stay r = cond (uses net resource stay && (r == round)) 1 0

-- how many of the first stays use the resource and are in the round
abbrev pub part_load : Instance → (ℕ → ℕ) → ℕ → ℕ → ℕ → ℕ
part_load net f n resource round = count_below n (λ s. uses net resource s && (f s == round))

-- cells and the root
abbrev pub node_count : Instance → ℕ
node_count net = rows net * (net.rounds + 1) + 1

-- the most that there may be
abbrev pub max_nodes : ℕ
max_nodes = 4194304

-- the schedule that a list of rounds gives
abbrev pub rounds_of : List ℕ → ℕ → ℕ
rounds_of rounds stay = slice_index rounds stay
