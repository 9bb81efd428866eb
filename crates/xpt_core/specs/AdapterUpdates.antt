-- what an event makes of the adapters' queues
use Rattle.std.specs.Prelude.{◌≡◌, ℕ, ◌+◌, ◌-◌, ◌<◌, ◌≤◌, true, List, length, map, is_some}
use Rattle.std.specs.Option.{option_map_or}
use Rattle.xpt_core.specs.Words.{device_adapter, lane_adapter, Topology, Event, Send, FreezeSim, ReleaseSim, Tick, Adapter, with_priority, with_send, best_ready, Row}
use Rattle.xpt_core.specs.Ready.{ready_priority}
use Rattle.xpt_core.specs.Places.{at_place, HasAt}
use Rattle.xpt_core.specs.Known.{Known, adapters_of}
use Rattle.xpt_core.specs.Affected.{Affected, Nothing, One, All}

-- a send at this place to the device whose turn it is
abbrev pub with_turn : ℕ → Adapter → Adapter
with_turn place s =
    option_map_or (λ d. record s { rows = with_send d place s.rows; sent = s.sent + 1 }) (best_ready s) s

-- that many more freezes
abbrev pub with_freezes : ℕ → Adapter → Adapter
with_freezes count s = record s { callers = s.callers + count }

-- one freeze fewer
abbrev pub less_freeze : Adapter → Adapter
less_freeze s = record s { callers = s.callers - 1 }

-- the next round opens
abbrev pub in_next_round : Adapter → Adapter
in_next_round s = record s { sent = 0 }

-- what an event at this place makes of the queues, apart from which devices are ready
abbrev pub updated : Topology → ℕ → Event → List Adapter → List Adapter
updated c place (Send lane ccb) sims = at_place (lane_adapter c lane) (with_turn place) sims
updated c place (FreezeSim sim count) sims = at_place sim (with_freezes count) sims
updated c place (ReleaseSim sim) sims = at_place sim less_freeze sims
updated c place Tick sims = map in_next_round sims
updated c place _ sims = sims

-- what each kind of event finds in the queues
abbrev pub CanUpdate : Topology → ℕ → Event → List Adapter → Type 0
CanUpdate c place (Send lane ccb) sims =
    (lane < length c.lanes) × (place < 65535)
    × HasAt (λ s. is_some (best_ready s) ≡ true) sims (lane_adapter c lane)
CanUpdate c place (FreezeSim sim count) sims = HasAt (λ s. s.callers + count ≤ 65535) sims sim
CanUpdate c place (ReleaseSim sim) sims = HasAt (λ s. 0 < s.callers) sims sim
CanUpdate c place _ sims = Unit

-- the device, ready as it is by the events
abbrev pub with_ready : Topology → List Event → ℕ → Adapter → Adapter
with_ready c events d s = record s { rows = with_priority d (ready_priority c events d) s.rows }

-- each device, ready as it is by the events
abbrev pub fresh_row : Topology → List Event → Row → Row
fresh_row c events r = record r { priority = ready_priority c events r.device }

abbrev pub all_ready : Topology → List Event → Adapter → Adapter
all_ready c events s = record s { rows = map (fresh_row c events) s.rows }

-- the queues, with the devices that were affected ready as they are by the events
abbrev pub refreshed : Topology → List Event → Affected → List Adapter → List Adapter
refreshed c events Nothing sims = sims
refreshed c events (One d) sims = at_place (device_adapter c d) (with_ready c events d) sims
refreshed c events All sims = map (all_ready c events) sims

-- they are the queues of the adapters of this configuration, and of its devices
pub record AreAdapters (c : Topology) (sims : List Adapter) : Type 0 where
  pub by : Known
  pub is : sims ≡ adapters_of c by

-- a device that was affected is there
abbrev pub IsThere : Topology → Affected → Type 0
IsThere c (One d) = d < length c.devices
IsThere c _ = Unit
