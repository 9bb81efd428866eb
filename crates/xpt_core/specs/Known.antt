-- what a transport's adapters hold
use Rattle.std.specs.Prelude.{ℕ, ◌==◌, if◌then◌else◌, List, length, map, filter, Option, None, count_by}
use Rattle.std.specs.List.{range_with_len}
use Rattle.xpt_core.specs.Words.{Topology, sendings, adapter_freezes, is_on, adapter_openings, devices, goes_now_to_adapter, last_sent, Event, Adapter, Row}
use Rattle.xpt_core.specs.Ready.{ready_priority}

-- of each device, by its number: the last send to it, and its priority where it is ready;
-- of each adapter: the sends of this round, and the freezes
pub record Known : Type 0 where
  pub turn : ℕ → ℕ
  pub ready : ℕ → Option ℕ
  pub sent : ℕ → ℕ
  pub callers : ℕ → ℕ

-- what is known by the events so far
unfoldable pub known : Topology → List Event → Known
known c events = record {
  turn = last_sent events;
  ready = ready_priority c events;
  sent = λ a. count_by (goes_now_to_adapter c events a) (sendings events);
  callers = adapter_freezes events;
}

-- what is known where no event has happened
abbrev pub nothing : Known
nothing = record { turn = λ d. 0; ready = λ d. None; sent = λ a. 0; callers = λ a. 0 }

-- the devices on an adapter, by number
abbrev pub devices_on : Topology → ℕ → List ℕ
devices_on c a = filter (is_on c a) (devices c)

-- what an adapter says of a device
abbrev pub row_of : Known → ℕ → Row
row_of k d = record { device = d; turn = k.turn d; priority = k.ready d }

-- what an adapter holds
abbrev pub adapter_of : Topology → Known → ℕ → Adapter
adapter_of c k a = record {
  rows = map (row_of k) (devices_on c a);
  openings = adapter_openings c a;
  sent = k.sent a;
  callers = k.callers a;
}

-- the numbers of the adapters
abbrev pub adapters : Topology → List ℕ
adapters c = range_with_len 0 (length c.adapters)

-- what all adapters hold
abbrev pub adapters_of : Topology → Known → List Adapter
adapters_of c k = map (adapter_of c k) (adapters c)

-- another value at one number
abbrev pub set_at : {X : Type 0} → ℕ → X → (ℕ → X) → ℕ → X
set_at d x f k = if d == k then x else f k
