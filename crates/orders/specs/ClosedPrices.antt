-- prices of devices' openings in closed form
use Rattle.std.specs.Prelude.{◌≡◌, ◌≢◌, ℕ, ◌+◌, ◌-◌, ◌*◌, ◌<◌, ◌≤◌, ◌⊎◌, true}
use Rattle.round_net.specs.Instance.{Instance, rows}
use Rattle.round_net.specs.Schedules.{load, IsAdmissible}
use Rattle.round_net.specs.Value.{Pricing, ProvesBest}
use Rattle.round_net.specs.Sound.{IsSound}
use Rattle.orders.specs.Orders.{goes_before, IsOrdered}
use Rattle.orders.specs.declared.order.Order.TheVariants.{ByWeight}

-- a stay waits at a device after a round: it has arrived by then, and is sent later
pub record WaitsAfter (net : Instance) (f : ℕ → ℕ) (d r s : ℕ) : Type 0 where
  pub within : s < net.stays
  pub here : net.device s ≡ d
  pub arrived : net.arrival s ≤ r
  pub later : r < f s

-- of those that wait there it is the one that goes before all others by weight
pub record IsFirstAfter (net : Instance) (f : ℕ → ℕ) (d r h : ℕ) : Type 0 where
  pub waits : WaitsAfter net f d r h
  pub first : (s : ℕ) → WaitsAfter net f d r s → s ≢ h → goes_before ByWeight net h s ≡ true

abbrev pub IsNobodyAfter : Instance → (ℕ → ℕ) → ℕ → ℕ → Type 0
IsNobodyAfter net f d r = (s : ℕ) → ¬ WaitsAfter net f d r s

-- What an opening of a device is worth in a round: nothing if nobody waits there after the round; else what the first that waits
-- costs from the round to its own, and what an opening is worth then.
abbrev pub IsClosedPrice : Instance → (ℕ → ℕ) → Pricing → ℕ → ℕ → Type 0
IsClosedPrice net f p d r = (IsNobodyAfter net f d r × (p d r ≡ 0)) ⊎ ((h : ℕ) × IsFirstAfter net f d r h × (p d r ≡ net.weight h * (f h - r) + p d (f h)))

-- the devices' openings have such prices, and those of adapters and links none
pub record AreClosedPrices (net : Instance) (f : ℕ → ℕ) (p : Pricing) : Type 0 where
  pub devices : (d r : ℕ) → d < net.devices → 1 ≤ r → r ≤ net.rounds → IsClosedPrice net f p d r
  pub others : (row r : ℕ) → net.devices ≤ row → row < rows net → 1 ≤ r → r ≤ net.rounds → p row r ≡ 0

-- each stay that waits finds its device full
abbrev pub DevicesBind : Instance → (ℕ → ℕ) → Type 0
DevicesBind net f = (s r : ℕ) → s < net.stays → net.arrival s ≤ r → r < f s → load net f (net.device s) r ≡ net.cap (net.device s) r

-- where in the order by weight each stay is sent in its window, and each one that waits finds its device full, such prices prove
-- it best
abbrev pub IsBestWhereDevicesBind : Type 0
IsBestWhereDevicesBind = (net : Instance) (live f : ℕ → ℕ) (p : Pricing) → IsSound net live → IsOrdered ByWeight net f → IsAdmissible net f → DevicesBind net f → AreClosedPrices net f p → ProvesBest net f p
