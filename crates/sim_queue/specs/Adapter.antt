-- What contracts see of a `SimQueue`: an adapter's choice among its devices.
use Rattle.std.specs.Prelude.{ℕ, ◌+◌, ◌==◌, Bool, ◌&&◌, nat_lt, if◌then◌else◌, List, [], ◌∷◌, Option, None, is_some, unwrap_or, option_map, map, filter}
use Rattle.std.specs.List.{list_any}
use Rattle.cam_types.specs.Lists.{least_by}
pub use Rattle.sim_queue.specs.declared.row.Row.{Row}

-- the devices, each once, in the order in which they were named; the openings of each round; how many were used in this one; the freezes
pub record Adapter : Type 0 where
  pub rows : List Row
  pub openings : ℕ
  pub sent : ℕ
  pub callers : ℕ

-- a device before its first send, with nothing to send
abbrev pub new_row : ℕ → Row
new_row device = record { device = device; turn = 0; priority = None }

-- the device is one of these
abbrev pub is_named : ℕ → List Row → Bool
is_named device rows = list_any (λ r. r.device == device) rows

-- the row, at this priority or not ready, if it is this device's
abbrev pub prioritized : ℕ → Option ℕ → Row → Row
prioritized device priority r = if r.device == device then record r { priority = priority } else r

-- the device is ready at this priority, or isn't
abbrev pub with_priority : ℕ → Option ℕ → List Row → List Row
with_priority device priority rows = map (prioritized device priority) rows

-- the row, its last send at this place, if it is this device's
abbrev pub sent_at : ℕ → ℕ → Row → Row
sent_at device place r = if r.device == device then record r { turn = place + 1 } else r

-- the last send to the device is at this place
abbrev pub with_send : ℕ → ℕ → List Row → List Row
with_send device place rows = map (sent_at device place) rows

-- devices take turns by priority, then least recently sent to, never before all others, then number
abbrev pub turn_key : Row → List ℕ
turn_key r = unwrap_or r.priority 0 ∷ r.turn ∷ r.device ∷ []

-- the device whose turn it is, of those that are ready
abbrev pub head : List Row → Option ℕ
head rows = option_map (λ r. r.device) (least_by turn_key (filter (λ r. is_some r.priority) rows))

-- no freeze holds, and an opening of this round is left
abbrev pub can_send : Adapter → Bool
can_send a = (a.callers == 0) && nat_lt a.sent a.openings

-- the head of an adapter that can send
abbrev pub best_ready : Adapter → Option ℕ
best_ready a = if can_send a then head a.rows else None
