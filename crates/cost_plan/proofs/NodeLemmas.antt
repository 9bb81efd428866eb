-- Nodes lie within the graph.
use Rattle.std.proofs.Common.{ℕ, ◌+◌, ◌*◌, ◌/◌, ◌<◌, ◌≤◌, inl, inr, arith}
use Rattle.std.proofs.lemmas.Bool.{cases_lt}
use Rattle.std.proofs.lemmas.Nat.{le-div, mul-add-lt, mul-le}
use Rattle.cost_plan.specs.Words.{MAX_ADAPTERS, MAX_DEVICES, MAX_LINKS, MAX_NET_ROUNDS, MAX_WEIGHT, Instance, rows, IsSound, longest_path}
use Rattle.cost_plan.specs.Cells.{cell, node_of, node_count, max_nodes}
use Rattle.cost_plan.proofs.CellLemmas.{node_of-resource, node_of-past}

-- cells stand within the resources
pub cell-in : (net : Instance) (resource r : ℕ) → resource < rows net → r ≤ net.rounds → cell net resource r < rows net * (net.rounds + 1)
cell-in net resource r inside last = omega (arith, mul-add-lt resource (net.rounds + 1) r (rows net) inside (omega arith))

pub cell-lt-node_count : (net : Instance) (resource r : ℕ) → resource < rows net → r ≤ net.rounds → cell net resource r < node_count net
cell-lt-node_count net resource r inside last = omega (arith, cell-in net resource r inside last)

-- and so does what stands above them
pub node_of-lt-node_count : (net : Instance) (resource r : ℕ) → r ≤ net.rounds → node_of net resource r < node_count net
node_of-lt-node_count net resource r last = elim (cases_lt resource (rows net)) [
  | inl within ↦ omega (arith, node_of-resource net resource r within, cell-lt-node_count net resource r within last)
  | inr past ↦ omega (arith, node_of-past net resource r past)
]

-- there are few nodes
pub node_count-le : (net : Instance) (live : ℕ → ℕ) → IsSound net live → node_count net ≤ max_nodes
node_count-le net live sound =
    let most : ℕ = MAX_DEVICES + MAX_ADAPTERS + MAX_LINKS in
    let product : rows net * (net.rounds + 1) ≤ most * (MAX_NET_ROUNDS + 1) = mul-le (rows net) (net.rounds + 1) most (MAX_NET_ROUNDS + 1) (omega (arith, sound.few_devices, sound.few_adapters, sound.few_links)) (omega (arith, sound.few_rounds)) in
    omega arith

-- what a stay gains by leaving a round is little: for each node so much is a quarter of the largest price at most
pub up-le : (net : Instance) (live : ℕ → ℕ) (stay round : ℕ) → IsSound net live → stay < net.stays → round ≤ net.rounds → net.weight stay * round * node_count net ≤ net.max_price / 4
unfolding longest_path
up-le net live stay round sound within last =
    let product : net.weight stay * round ≤ MAX_WEIGHT * net.rounds = mul-le (net.weight stay) round MAX_WEIGHT net.rounds (sound.small_weight stay within) last in
    let path : net.weight stay * round * node_count net ≤ longest_path net = mul-le (net.weight stay * round) (node_count net) (MAX_WEIGHT * net.rounds) (node_count net) product (omega arith) in
    le-div (net.weight stay * round * node_count net) net.max_price 4 (omega arith) (omega (arith, path, sound.price_room))
