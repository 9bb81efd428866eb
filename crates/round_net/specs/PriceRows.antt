-- prices as a flat list
use Rattle.std.specs.Prelude.{◌≡◌, ℕ, ◌+◌, ◌*◌, ◌≤◌, ◌==◌, ◌&&◌, if◌then◌else◌, List, length, slice_index, All}
use Rattle.cam_types.specs.declared.limits.TheConstants.{MAX_DEVICES, MAX_ADAPTERS, MAX_LINKS}
use Rattle.round_net.specs.Instance.{Instance}
use Rattle.round_net.specs.Rows.{cell}
use Rattle.round_net.specs.Value.{Pricing}
use Rattle.round_net.specs.declared.price_range.TheConstants.{MAX_NET_PRICE}
use Rattle.round_net.specs.declared.limits.TheConstants.{MAX_NET_ROUNDS}

-- how many rounds, devices, adapters and links there are prices for, the most that a price may be, and the prices: those of the first row's rounds, then
-- those of the second one's, and so on
pub record PriceRows : Type 0 where
  pub rounds : ℕ
  pub devices : ℕ
  pub adapters : ℕ
  pub links : ℕ
  pub max_price : ℕ
  pub prices : List ℕ

-- what each opening is worth by this list
unfoldable pub pricing_of_rows : PriceRows → Pricing
pricing_of_rows p = λ row r. slice_index p.prices (cell p.rounds row r)

-- there is a price for each round of each row, none above the most
pub record IsPriced (p : PriceRows) : Type 0 where
  pub cells : length p.prices ≡ (p.devices + p.adapters + p.links) * p.rounds
  pub small : All (λ price. price ≤ p.max_price) p.prices
  pub small_price : p.max_price ≤ MAX_NET_PRICE
  pub few_rounds : p.rounds ≤ MAX_NET_ROUNDS
  pub few_devices : p.devices ≤ MAX_DEVICES
  pub few_adapters : p.adapters ≤ MAX_ADAPTERS
  pub few_links : p.links ≤ MAX_LINKS

-- prices for the net's rounds, devices, adapters and links, up to its largest
pub record IsPricingFor (net : Instance) (p : PriceRows) : Type 0 where
  pub rounds : p.rounds ≡ net.rounds
  pub devices : p.devices ≡ net.devices
  pub adapters : p.adapters ≡ net.adapters
  pub links : p.links ≡ net.links
  pub max_price : p.max_price ≡ net.max_price

-- prices for as many rounds, devices, adapters and links, up to the same largest
pub record IsSameSize (old new : PriceRows) : Type 0 where
  pub rounds : new.rounds ≡ old.rounds
  pub devices : new.devices ≡ old.devices
  pub adapters : new.adapters ≡ old.adapters
  pub links : new.links ≡ old.links
  pub max_price : new.max_price ≡ old.max_price

-- a row's opening in a round has a new price, and all else is as it was
pub record SetsPrice (old new : PriceRows) (row r price : ℕ) : Type 0 where
  pub size : IsSameSize old new
  pub prices : (other q : ℕ) → 1 ≤ q → q ≤ old.rounds →
      pricing_of_rows new other q ≡ (if (other == row) && (q == r) then price else pricing_of_rows old other q)
