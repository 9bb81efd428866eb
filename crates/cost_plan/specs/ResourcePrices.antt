-- prices out of potentials on cells
use Rattle.std.specs.Prelude.{◌≡◌, ℕ, ◌+◌, ◌-◌, ◌<◌, ◌≤◌, nat_lt, if◌then◌else◌}
use Rattle.cost_plan.specs.Words.{Arc, Instance, rows, Pricing}
use Rattle.cost_plan.specs.Cells.{cell, above}
use Rattle.cost_plan.specs.Residual.{IsResidual}

-- the potentials settle each arc of what can be changed in the schedule
abbrev pub SettlesAll : Instance → (ℕ → ℕ) → (ℕ → ℕ) → Type 0
SettlesAll net f potential = (arc : Arc) → IsResidual net f arc → potential arc.tail + arc.up ≤ potential arc.head + arc.down

-- what a cell that takes stays is worth by potentials: how far its own is above that of the node above it
abbrev pub resource_price : Instance → (ℕ → ℕ) → Pricing
resource_price net potential resource round = if nat_lt 0 (net.cap resource round) then potential (cell net resource round) - potential (above net resource round) else 0

-- a price that the potentials give, not above the net's largest
abbrev pub IsPrice : Instance → (ℕ → ℕ) → ℕ → ℕ → ℕ → Type 0
IsPrice net potential resource round price = (price ≡ resource_price net potential resource round) × (price ≤ net.max_price)

-- a resource's openings have the prices of the potentials in each round before this one
abbrev pub PricesResource : Instance → (ℕ → ℕ) → Pricing → ℕ → ℕ → Type 0
PricesResource net potential p resource here = (round : ℕ) → 1 ≤ round → round < here → IsPrice net potential resource round (p resource round)

-- so have all resources before this one
abbrev pub PricesResources : Instance → (ℕ → ℕ) → Pricing → ℕ → Type 0
PricesResources net potential p here = (resource : ℕ) → resource < here → PricesResource net potential p resource (net.rounds + 1)

-- no opening of the net is worth more than so much
abbrev pub IsAtMost : Instance → Pricing → ℕ → Type 0
IsAtMost net p most = (resource round : ℕ) → resource < rows net → 1 ≤ round → round ≤ net.rounds → p resource round ≤ most
