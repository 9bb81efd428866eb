-- The ready devices of an adapter in the order of their turns, as entries of a `Camq`.
use Rattle.std.specs.Prelude.{◌≡◌, ℕ, ◌+◌, ◌*◌, ◌^◌, ◌<◌, ◌≤◌, Bool, ◌&&◌, List, length, is_some, unwrap_or, map, filter, All}
use Rattle.cam_types.specs.Lists.{is_less}
use Rattle.camq_heap.specs.declared.entry.Entry.{Entry}
use Rattle.camq_heap.specs.Order.{in_order, AllApart}
use Rattle.camq_heap.specs.Queue.{Queue, key}
use Rattle.sim_queue.specs.Adapter.{turn_key, Row}

-- the device has something to send
abbrev pub is_ready : Row → Bool
is_ready r = is_some r.priority

-- both devices are ready, and the first goes before the second
abbrev pub goes_before : Row → Row → Bool
goes_before r s = is_ready r && (is_ready s && is_less (turn_key r) (turn_key s))

-- one number for the last send and the device, of which the last send decides first
abbrev pub generation : Row → ℕ
generation r = r.turn * 2 ^ 32 + r.device

-- a ready device's entry
abbrev pub entry_of : Row → Entry ℕ
entry_of r = record { priority = unwrap_or r.priority 0; generation = generation r; item = r.device }

-- the entries of the ready devices
abbrev pub ready_entries : List Row → List (Entry ℕ)
ready_entries rows = map entry_of (filter is_ready rows)

-- each row is of another device, with a number of 32 bits, and last sent to among the first 65,535 events
pub record AreRows (rows : List Row) : Type 0 where
  pub apart : AllApart (λ r. r.device) rows
  pub numbers : All (λ r. r.device < 2 ^ 32) rows
  pub turns : All (λ r. r.turn ≤ 65535) rows

-- the queue holds the ready devices of these rows, with room for all
pub record IsInTurn (rows : List Row) (ready : Queue ℕ) : Type 0 where
  pub sound : AreRows rows
  pub entries : ready.entries ≡ in_order key (ready_entries rows)
  pub room : length rows ≤ ready.capacity

-- the parts of an adapter's queue
pub record IsSound (rows : List Row) (ready : Queue ℕ) (callers : ℕ) : Type 0 where
  pub in_turn : IsInTurn rows ready
  pub few_freezes : callers ≤ 65535
