-- what is asked of a configuration
use Rattle.std.specs.Prelude.{ℕ, ◌==◌, Bool, false, nat_lt, List, Option, length, slice_get, option_and_then}
use Rattle.std.specs.List.{range_with_len}
use Rattle.std.specs.Option.{option_map_or}
use Rattle.cam_types.specs.Topology.{Topology, Adapter, Device}
use Rattle.cam_types.specs.Weights.{weight_in}

-- there is a device, an adapter, a lane of that number
abbrev pub names_device : Topology → ℕ → Bool
names_device c d = nat_lt d (length c.devices)

abbrev pub names_adapter : Topology → ℕ → Bool
names_adapter c a = nat_lt a (length c.adapters)

abbrev pub names_lane : Topology → ℕ → Bool
names_lane c lane = nat_lt lane (length c.lanes)

-- the device is on the adapter
abbrev pub is_on : Topology → ℕ → ℕ → Bool
is_on c a d = option_map_or (λ (device : Device). device.bus == a) (slice_get c.devices d) false

-- the adapter of a device, and 0 where there is no such device
abbrev pub device_adapter : Topology → ℕ → ℕ
device_adapter c d = option_map_or (λ (device : Device). device.bus) (slice_get c.devices d) 0

-- the adapter of a lane, and 0 where there is no such lane
abbrev pub lane_adapter : Topology → ℕ → ℕ
lane_adapter c lane = option_map_or (λ a. a) (slice_get c.lanes lane) 0

-- the link of an adapter, if it is on one
abbrev pub adapter_link : Topology → ℕ → Option ℕ
adapter_link c a = option_and_then (λ (adapter : Adapter). adapter.link) (slice_get c.adapters a)

-- the device is on an adapter that is on the link
abbrev pub is_under : Topology → ℕ → ℕ → Bool
is_under c l d = option_map_or (λ (device : Device). option_map_or (λ k. k == l) (adapter_link c device.bus) false) (slice_get c.devices d) false

-- how many commands a device takes in a round, an adapter, and a link; 0 where there is none
abbrev pub device_openings : Topology → ℕ → ℕ
device_openings c d = option_map_or (λ (device : Device). device.openings) (slice_get c.devices d) 0

abbrev pub adapter_openings : Topology → ℕ → ℕ
adapter_openings c a = option_map_or (λ (adapter : Adapter). adapter.openings) (slice_get c.adapters a) 0

abbrev pub link_openings : Topology → ℕ → ℕ
link_openings c l = option_map_or (λ n. n) (slice_get c.links l) 0

-- the numbers of the devices
abbrev pub devices : Topology → List ℕ
devices c = range_with_len 0 (length c.devices)

-- what a round of waiting costs at a priority
abbrev pub weight : Topology → ℕ → ℕ
weight c priority = weight_in c.weights priority
