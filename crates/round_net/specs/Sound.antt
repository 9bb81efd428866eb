-- what holds of every net
use Rattle.std.specs.Prelude.{◌≡◌, ℕ, ◌+◌, ◌*◌, ◌<◌, ◌≤◌, Some, length}
use Rattle.cam_types.specs.declared.limits.TheConstants.{MAX_ROUNDS, MAX_STAYS, MAX_DEVICES, MAX_ADAPTERS, MAX_LINKS, MAX_OPENINGS, MAX_WEIGHT}
use Rattle.round_net.specs.declared.limits.TheConstants.{MAX_NET_ROUNDS, MAX_NET_STAYS, MAX_CAP}
use Rattle.round_net.specs.declared.price_range.TheConstants.{MAX_PRICE, MAX_NET_PRICE}
use Rattle.round_net.specs.Instance.{Instance, rows}
use Rattle.round_net.specs.Schedules.{IsAdmissible}
use Rattle.round_net.specs.Rows.{NetRows, instance_of_rows, live_of_rows}

-- at most what the longest wait costs of the greatest weight, once for each round of each row, one round more for each row, and
-- once besides
unfoldable pub longest_path : Instance → ℕ
longest_path net = MAX_WEIGHT * net.rounds * (rows net * (net.rounds + 1) + 1)

-- There is a round. It is within the limits: each stay is of a device, each device is on an adapter, an adapter on a link or on none, windows lie
-- within the rounds, and no weight or cap is too large. There is room for the prices that prove a best schedule, which a
-- longest path bounds. Its live schedule is admissible.
pub record IsSound (net : Instance) (live : ℕ → ℕ) : Type 0 where
  pub some_rounds : 1 ≤ net.rounds
  pub few_rounds : net.rounds ≤ MAX_NET_ROUNDS
  pub few_stays : net.stays ≤ MAX_NET_STAYS
  pub few_devices : net.devices ≤ MAX_DEVICES
  pub few_adapters : net.adapters ≤ MAX_ADAPTERS
  pub few_links : net.links ≤ MAX_LINKS
  pub on_device : (s : ℕ) → s < net.stays → net.device s < net.devices
  pub on_adapter : (d : ℕ) → d < net.devices → net.adapter_of d < net.adapters
  pub on_link : (a l : ℕ) → net.link_of a ≡ Some l → l < net.links
  pub from_first : (s : ℕ) → s < net.stays → 1 ≤ net.arrival s
  pub to_last : (s : ℕ) → s < net.stays → net.last s ≤ net.rounds
  pub some_weight : (s : ℕ) → s < net.stays → 1 ≤ net.weight s
  pub small_weight : (s : ℕ) → s < net.stays → net.weight s ≤ MAX_WEIGHT
  pub small_cap : (row r : ℕ) → net.cap row r ≤ MAX_CAP
  pub small_price : net.max_price ≤ MAX_NET_PRICE
  pub price_room : 4 * longest_path net ≤ net.max_price
  pub live_admissible : IsAdmissible net live

-- the rows have a cap for each round, and the net is sound
pub record IsNet (n : NetRows) : Type 0 where
  pub cells : length n.caps ≡ rows (instance_of_rows n) * n.rounds
  pub sound : IsSound (instance_of_rows n) (live_of_rows n)

-- it is within the limits of histories, and its largest price is that of their nets
pub record IsWithinHistory (net : Instance) : Type 0 where
  pub rounds : net.rounds ≤ MAX_ROUNDS
  pub stays : net.stays ≤ MAX_STAYS
  pub cap : (row r : ℕ) → net.cap row r ≤ MAX_OPENINGS
  pub price : net.max_price ≡ MAX_PRICE
