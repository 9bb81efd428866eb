-- whose turn it is on an adapter, by the events before a place
use Rattle.std.specs.Prelude.{ℕ, ◌+◌, ◌==◌, Bool, true, ◌&&◌, if◌then◌else◌, nat_lt, List, [], ◌∷◌, filter, Option, None, count_by, find, is_some, reverse, option_and_then}
use Rattle.std.specs.List.{before_last}
use Rattle.std.specs.Option.{option_map_or}
use Rattle.cam_types.specs.Lists.{least_by}
use Rattle.cam_types.specs.Questions.{is_on, is_under, device_openings, adapter_openings, link_openings, adapter_link, devices}
use Rattle.cam_types.specs.Topology.{Topology}
use Rattle.event_rules.specs.Event.{is_tick, is_adjust_of, adjusts_to, Event}
use Rattle.event_rules.specs.Counts.{round, last, sendings, goes_to, freeze_count, adapter_freezes, Sending}
use Rattle.event_rules.specs.Stays.{first, Passage}

-- how many commands a device takes in the place's round: the last adjustment before the round opened says so, or else
-- the configuration
unfoldable pub openings : Topology → List Event → ℕ → ℕ
openings c events d = option_map_or adjusts_to (last (is_adjust_of d) (before_last is_tick events)) (device_openings c d)

-- a send in the place's round that passes the test: one to the device, to a device on the adapter, or over the link
abbrev pub goes_now : List Event → (Sending → Bool) → Sending → Bool
goes_now events test s = test s && (s.round == round events)

abbrev pub goes_now_to : List Event → ℕ → Sending → Bool
goes_now_to events d s = goes_now events (goes_to d) s

abbrev pub goes_now_to_adapter : Topology → List Event → ℕ → Sending → Bool
goes_now_to_adapter c events a s = goes_now events (λ (t : Sending). is_on c a t.device) s

abbrev pub goes_now_over_link : Topology → List Event → ℕ → Sending → Bool
goes_now_over_link c events l s = goes_now events (λ (t : Sending). is_under c l t.device) s

-- of that many openings one is left: each send in the place's round that passes the test uses one
abbrev pub is_left : List Event → (Sending → Bool) → ℕ → Bool
is_left events test openings = nat_lt (count_by (goes_now events test) (sendings events)) openings

unfoldable pub has_opening : Topology → List Event → ℕ → Bool
has_opening c events d = is_left events (goes_to d) (openings c events d)

unfoldable pub adapter_has_opening : Topology → List Event → ℕ → Bool
adapter_has_opening c events a = is_left events (λ (s : Sending). is_on c a s.device) (adapter_openings c a)

-- an opening is left on the adapter's link, if it is on one
unfoldable pub link_has_opening : Topology → List Event → ℕ → Bool
link_has_opening c events a = option_map_or (λ l. is_left events (λ (s : Sending). is_under c l s.device) (link_openings c l)) (adapter_link c a) true

-- a stay is queued, no freeze stands and an opening is left
unfoldable pub is_ready : Topology → List Event → ℕ → Bool
is_ready c events d = is_some (first events d) && (freeze_count events d == 0) && has_opening c events d

-- one more than the place of the last send to the device, and 0 where there is none
unfoldable pub last_sent : List Event → ℕ → ℕ
last_sent events d = option_map_or (λ (s : Sending). s.place + 1) (find (goes_to d) (reverse (sendings events))) 0

-- devices take turns by the priority of their first stay, then least recently sent to, then by number
abbrev pub turn_key : List Event → ℕ → List ℕ
turn_key events d = option_map_or (λ (p : Passage). p.priority) (first events d) 0 ∷ last_sent events d ∷ d ∷ []

-- it is a device on the adapter, and ready
abbrev pub may_send : Topology → List Event → ℕ → ℕ → Bool
may_send c events a d = is_on c a d && is_ready c events d

-- the device whose turn it is, of those on the adapter that are ready, where the adapter has no freeze and an opening
unfoldable pub turn : Topology → List Event → ℕ → Option ℕ
turn c events a =
    if (adapter_freezes events a == 0) && adapter_has_opening c events a
    then least_by (turn_key events) (filter (may_send c events a) (devices c))
    else None

-- it sends where the adapter's link has an opening too
unfoldable pub head : Topology → List Event → ℕ → Option ℕ
head c events a = if link_has_opening c events a then turn c events a else None

-- the first stay of the device whose turn it is
unfoldable pub next : Topology → List Event → ℕ → Option Passage
next c events a = option_and_then (first events) (head c events a)
