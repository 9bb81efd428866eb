-- the live schedule, where each stay was sent, and what it cost
use Rattle.std.specs.Prelude.{ℕ, ◌+◌, ◌-◌, ◌*◌, if◌then◌else◌, List, take, drop, Option, Some, None, sum_by}
use Rattle.std.specs.List.{list_any, position_or_len}
use Rattle.cam_types.specs.Topology.{Topology}
use Rattle.cam_types.specs.Questions.{weight}
use Rattle.event_rules.specs.Event.{is_send_of, Event}
use Rattle.event_rules.specs.Counts.{round}
use Rattle.event_rules.specs.Stays.{stays_begun, is_unsent, Passage}

-- the place of a stay's send: the first send of its CCB after the event that began it, or the length without one
unfoldable pub send_place : List Event → Passage → ℕ
send_place events p = p.place + 1 + position_or_len (is_send_of p.ccb) (drop (p.place + 1) events)

-- the round of its send
abbrev pub live_round : List Event → Passage → ℕ
live_round events p = round (take (send_place events p) events)

-- what its waiting cost in this configuration
unfoldable pub live_part : Topology → List Event → Passage → ℕ
live_part c events p = weight c p.priority * (live_round events p - p.arrival)

-- the cost of the live schedule, where each stay was sent
unfoldable pub live_cost : Topology → List Event → Option ℕ
live_cost c events =
    if list_any (is_unsent events) (stays_begun events) then None else Some (sum_by (live_part c events) (stays_begun events))
