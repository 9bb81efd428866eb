-- a net as flat lists, and what it holds
use Rattle.std.specs.Prelude.{ℕ, ◌+◌, ◌-◌, ◌*◌, List, length, map, Option, option_and_then, slice_get, slice_index}
use Rattle.std.specs.Option.{option_map_or}
use Rattle.cam_types.specs.Topology.{Topology}
use Rattle.event_rules.specs.declared.stay.Stay.{Stay}
use Rattle.round_net.specs.Instance.{Instance}
pub use Rattle.round_net.specs.declared.stay_row.StayRow.{StayRow}

-- what there was, and how many commands; each device's adapter, each adapter's link, each stay, the caps of rows: those of the
-- first row's rounds, then those of the second one's, and so on; and the most that one opening may be worth
pub record NetRows : Type 0 where
  pub config : Topology
  pub commands : ℕ
  pub rounds : ℕ
  pub links : ℕ
  pub adapter_of : List ℕ
  pub link_of : List (Option ℕ)
  pub stays : List StayRow
  pub caps : List ℕ
  pub max_price : ℕ

-- where a round of a row stands in such a list
abbrev pub cell : ℕ → ℕ → ℕ → ℕ
cell rounds row r = row * rounds + (r - 1)

-- what stands in a stay's row, and 0 where there is no such stay
abbrev pub of_stay : (StayRow → ℕ) → List StayRow → ℕ → ℕ
of_stay part stays s = option_map_or part (slice_get stays s) 0

-- what there is to plan by these lists
unfoldable pub instance_of_rows : NetRows → Instance
instance_of_rows n = record {
  stays = length n.stays;
  devices = length n.adapter_of;
  adapters = length n.link_of;
  links = n.links;
  rounds = n.rounds;
  device = of_stay (λ (row : StayRow). row.device) n.stays;
  adapter_of = slice_index n.adapter_of;
  link_of = λ a. option_and_then (λ link. link) (slice_get n.link_of a);
  arrival = of_stay (λ (row : StayRow). row.arrival) n.stays;
  last = of_stay (λ (row : StayRow). row.last) n.stays;
  weight = of_stay (λ (row : StayRow). row.weight) n.stays;
  cap = λ row r. slice_index n.caps (cell n.rounds row r);
  max_price = n.max_price;
}

-- the round in which each stay was sent
unfoldable pub live_of_rows : NetRows → ℕ → ℕ
live_of_rows n = of_stay (λ (row : StayRow). row.live) n.stays

-- the stays by CCB and try
unfoldable pub names_of_rows : NetRows → List Stay
names_of_rows n = map (λ (row : StayRow). row.stay) n.stays
