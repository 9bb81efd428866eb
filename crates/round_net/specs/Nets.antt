-- the net of a history
use Rattle.std.specs.Prelude.{ℕ, ◌+◌, ◌-◌, ◌*◌, ◌/◌, ◌%◌, List, length, map, unwrap_or}
use Rattle.std.specs.List.{range_with_len}
use Rattle.std.specs.Option.{option_map_or}
use Rattle.round_net.specs.Words.{Topology, Adapter, Device, weight, commands, round, stays_begun, name_of, live_round, Event, Passage, next_stay, StayRecord}
use Rattle.round_net.specs.Instance.{Instance}
use Rattle.round_net.specs.Rows.{NetRows, instance_of_rows, live_of_rows, StayRow}
use Rattle.round_net.specs.Caps.{resource_count, cap}
use Rattle.round_net.specs.declared.price_range.TheConstants.{MAX_PRICE}

-- the last round of a stay: the one before its CCB's next stay arrives, or else the last round of all
unfoldable pub last_round : List Event → Passage → ℕ
last_round events p = option_map_or (λ (q : Passage). q.arrival - 1) (next_stay (stays_begun events) p) (round events)

-- a stay with its window and weight, and where it was sent
unfoldable pub stay_row : Topology → List Event → Passage → StayRow
stay_row c events p = record {
  stay = name_of p;
  device = p.device;
  arrival = p.arrival;
  last = last_round events p;
  weight = weight c p.priority;
  live = live_round events p;
}

-- the same by the record of the stay, in a history of that many rounds
abbrev pub row_of : Topology → ℕ → StayRecord → StayRow
row_of c rounds r = record {
  stay = name_of r.stay;
  device = r.stay.device;
  arrival = r.stay.arrival;
  last = option_map_or (λ arrival. arrival - 1) r.next_arrival rounds;
  weight = weight c r.stay.priority;
  live = unwrap_or r.sent rounds;
}

-- as many values as asked, by row and round: those of the first row's rounds, then those of the second one's, and so on
unfoldable pub cells : ℕ → (ℕ → ℕ → ℕ) → ℕ → List ℕ
cells rounds value n = map (λ at. value (at / rounds) (at % rounds + 1)) (range_with_len 0 n)

-- those of all rounds of that many rows
abbrev pub table : ℕ → ℕ → (ℕ → ℕ → ℕ) → List ℕ
table rows rounds value = cells rounds value (rows * rounds)

-- the net of a configuration with that many commands and rounds, these stays, caps by row and round, and a largest price
abbrev pub net_with : Topology → ℕ → ℕ → List StayRow → (ℕ → ℕ → ℕ) → ℕ → NetRows
net_with c commands rounds stays caps max_price = record {
  config = c;
  commands = commands;
  rounds = rounds;
  links = length c.links;
  adapter_of = map (λ (device : Device). device.bus) c.devices;
  link_of = map (λ (adapter : Adapter). adapter.link) c.adapters;
  stays = stays;
  caps = table (resource_count c) rounds caps;
  max_price = max_price;
}

-- the net of a history's configuration and events
unfoldable pub net_of : Topology → List Event → NetRows
net_of c events = net_with c (commands events) (round events) (map (stay_row c events) (stays_begun events)) (cap c events) MAX_PRICE

-- what there is to plan of a history, and where its stays were sent
abbrev pub instance_of : Topology → List Event → Instance
instance_of c events = instance_of_rows (net_of c events)

abbrev pub live_of : Topology → List Event → ℕ → ℕ
live_of c events = live_of_rows (net_of c events)
