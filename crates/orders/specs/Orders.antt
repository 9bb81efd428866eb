-- orders as they come, over a net
use Rattle.std.specs.Prelude.{◌≡◌, ℕ, ◌+◌, ◌==◌, ◌<◌, ◌≤◌, ◌&&◌, ◌||◌, Bool, true, nat_lt, nat_le}
use Rattle.round_net.specs.Sums.{count_below}
use Rattle.round_net.specs.Instance.{Instance, rows, uses}
use Rattle.round_net.specs.Schedules.{load}
use Rattle.round_net.specs.Sound.{IsSound}
use Rattle.orders.specs.declared.order.Order.{Order}
use Rattle.orders.specs.declared.order.Order.TheVariants.{FirstCome, ByWeight}

-- whether a stay goes before another: by its arrival, and then by its number
abbrev pub came_before : Instance → ℕ → ℕ → Bool
came_before net s t = nat_lt (net.arrival s) (net.arrival t) || ((net.arrival s == net.arrival t) && nat_lt s t)

-- the same in each order: by weight, the greater goes first
abbrev pub goes_before : Order → Instance → ℕ → ℕ → Bool
goes_before FirstCome net s t = came_before net s t
goes_before ByWeight net s t = nat_lt (net.weight t) (net.weight s) || ((net.weight s == net.weight t) && came_before net s t)

-- how many of the stays that go before a stay use a row in a round
abbrev pub load_before : Order → Instance → (ℕ → ℕ) → ℕ → ℕ → ℕ → ℕ
load_before order net f s row r = count_below net.stays (λ t. goes_before order net t s && (uses net row t && (f t == r)))

-- a resource that the stay uses is full in the round, of stays that go before it
pub record IsHeldUp (order : Order) (net : Instance) (f : ℕ → ℕ) (s r : ℕ) : Type 0 where
  pub row : ℕ
  pub used : uses net row s ≡ true
  pub full : load_before order net f s row r ≡ net.cap row r

-- The schedule of an order as it comes: no stay is sent before it arrived, no resource past its cap, and a stay waits in a round
-- only if one of its resources is full there of stays that go before it. A stay that isn't sent within the rounds is in the round
-- after the last.
pub record IsOrdered (order : Order) (net : Instance) (f : ℕ → ℕ) : Type 0 where
  pub not_early : (s : ℕ) → s < net.stays → net.arrival s ≤ f s
  pub ends : (s : ℕ) → s < net.stays → f s ≤ net.rounds + 1
  pub rows_hold : (row r : ℕ) → row < rows net → 1 ≤ r → r ≤ net.rounds → load net f row r ≤ net.cap row r
  pub held_up : (s r : ℕ) → s < net.stays → net.arrival s ≤ r → r < f s → r ≤ net.rounds → IsHeldUp order net f s r

-- how many aren't sent within the rounds, and how many are sent within them but after the last round of their window
abbrev pub unsent : Instance → (ℕ → ℕ) → ℕ
unsent net f = count_below net.stays (λ s. nat_lt net.rounds (f s))

abbrev pub late : Instance → (ℕ → ℕ) → ℕ
late net f = count_below net.stays (λ s. nat_lt (net.last s) (f s) && nat_le (f s) net.rounds)

-- one schedule alone is that of an order
abbrev pub IsOneAlone : Type 0
IsOneAlone = (order : Order) (net : Instance) (live f g : ℕ → ℕ) → IsSound net live → IsOrdered order net f → IsOrdered order net g → (s : ℕ) → s < net.stays → f s ≡ g s
