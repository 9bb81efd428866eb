-- the stays of each device, in the order by weight
use Rattle.std.specs.Prelude.{◌≡◌, ℕ, ◌<◌, true, List, [], length, get_or, slice_index, Vec}
use Rattle.std.specs.Global.{Global}
use Rattle.round_net.specs.Instance.{Instance}
use Rattle.orders.specs.Orders.{goes_before}
use Rattle.orders.specs.declared.order.Order.TheVariants.{ByWeight}

-- all stays of a device, each of which goes before those that come after it
pub record IsOwnOrder (net : Instance) (d : ℕ) (own : List ℕ) : Type 0 where
  pub within : (i : ℕ) → i < length own → slice_index own i < net.stays
  pub here : (i : ℕ) → i < length own → net.device (slice_index own i) ≡ d
  pub place : (s : ℕ) → s < net.stays → net.device s ≡ d → (i : ℕ) × (i < length own) × (slice_index own i ≡ s)
  pub before : (i j : ℕ) → i < j → j < length own → goes_before ByWeight net (slice_index own i) (slice_index own j) ≡ true

-- each device has its list
pub record AreOwnOrders (net : Instance) (lists : List (Vec ℕ Global)) : Type 0 where
  pub all : length lists ≡ net.devices
  pub each : (d : ℕ) (x : Vec ℕ Global) → d < net.devices → IsOwnOrder net d (get_or lists d x).items

-- so many lists without a stay
pub record AreNone (devices : ℕ) (lists : List (Vec ℕ Global)) : Type 0 where
  pub all : length lists ≡ devices
  pub each : (d : ℕ) (x : Vec ℕ Global) → d < devices → (get_or lists d x).items ≡ []
