-- what there is to plan: stays with their windows and weights, how many commands each row takes in each round, and the most that
-- one opening may be worth
use Rattle.std.specs.Prelude.{ℕ, ◌+◌, ◌==◌, Bool, List, [], ◌∷◌, Option}
use Rattle.std.specs.List.{list_any}
use Rattle.std.specs.Option.{option_map_or}

-- Stays, devices, adapters and links are numbered from 0, rounds from 1. There is a row for each device, after these one for
-- each adapter, and after these one for each link.
pub record Instance : Type 0 where
  pub stays : ℕ
  pub devices : ℕ
  pub adapters : ℕ
  pub links : ℕ
  pub rounds : ℕ
  pub device : ℕ → ℕ
  pub adapter_of : ℕ → ℕ
  pub link_of : ℕ → Option ℕ
  pub arrival : ℕ → ℕ
  pub last : ℕ → ℕ
  pub weight : ℕ → ℕ
  pub cap : ℕ → ℕ → ℕ
  pub max_price : ℕ

-- how many rows there are
abbrev pub rows : Instance → ℕ
rows net = net.devices + net.adapters + net.links

-- the adapter of a stay's device, and its link, if it is on one
abbrev pub adapter : Instance → ℕ → ℕ
adapter net s = net.adapter_of (net.device s)

abbrev pub link : Instance → ℕ → Option ℕ
link net s = net.link_of (adapter net s)

-- the row of an adapter, and of a link
abbrev pub adapter_resource : Instance → ℕ → ℕ
adapter_resource net a = net.devices + a

abbrev pub link_resource : Instance → ℕ → ℕ
link_resource net l = net.devices + net.adapters + l

-- the row of the link that an adapter is on, if it is on one
abbrev pub link_rows : Instance → ℕ → List ℕ
link_rows net a = option_map_or (λ l. link_resource net l ∷ []) (net.link_of a) []

-- the rows of which a command to a device takes an opening: the device's, its adapter's, and that of the adapter's link
abbrev pub path_of : Instance → ℕ → List ℕ
path_of net d = d ∷ adapter_resource net (net.adapter_of d) ∷ link_rows net (net.adapter_of d)

-- the rows of which a stay takes an opening
abbrev pub path : Instance → ℕ → List ℕ
path net s = path_of net (net.device s)

-- whether a row is one of them
abbrev pub uses : Instance → ℕ → ℕ → Bool
uses net row s = list_any (λ own. own == row) (path net s)
