-- what may happen after the events before a place
use Rattle.std.specs.Prelude.{ℕ, ◌+◌, ◌==◌, ◌≤◌, Bool, true, not, ◌&&◌, nat_lt, nat_le, List, length, Option, Some, None, slice_get}
use Rattle.std.specs.List.{list_all}
use Rattle.std.specs.Option.{option_map_or}
use Rattle.cam_types.specs.Lists.{prefixed}
use Rattle.cam_types.specs.Questions.{names_device, names_adapter, names_lane}
use Rattle.cam_types.specs.Topology.{Topology, are_openings}
use Rattle.cam_types.specs.Bounds.{Bounds}
use Rattle.cam_types.specs.declared.limits.TheConstants.{MAX_ROUNDS, MAX_STAYS, MAX_EVENTS, MAX_PRIORITY, MAX_RETRIES, MAX_FREEZES}
use Rattle.sense_class.specs.Classes.{status_of}
use Rattle.event_rules.specs.Event.{is_some_and, Event, Submit, Send, Done, Requeue, Finish, FreezeDev, ReleaseDev, FreezeSim, ReleaseSim, Adjust, Tick}
use Rattle.event_rules.specs.Counts.{round, commands, alive, is_in_flight, has_in_flight, is_recovering, wants_requeue, wants_finish, caller_count, adapter_freezes}
use Rattle.event_rules.specs.Stays.{stays_begun, Passage}
use Rattle.event_rules.specs.Head.{next}

-- how far events may go: how many CCBs may be alive at once, where they are counted, and how many rounds, stays and
-- events there may be
pub record Rules : Type 0 where
  pub ccbs : Option ℕ
  pub rounds : ℕ
  pub stays : ℕ
  pub events : ℕ

-- a history doesn't count the CCBs that are alive
abbrev pub history_rules : Rules
history_rules = record { ccbs = None; rounds = MAX_ROUNDS; stays = MAX_STAYS; events = MAX_EVENTS }

-- the rules of a transport with these limits
abbrev pub rules_of : Bounds → Rules
rules_of b = record { ccbs = Some b.ccbs; rounds = b.rounds; stays = b.stays; events = b.events }

-- how many CCBs can be alive at once, each of which has had a stay
abbrev pub max_alive : Rules → ℕ
max_alive rules = option_map_or (λ most. most) rules.ccbs rules.stays

-- they go no further than a history's
pub record IsWithinHistory (rules : Rules) : Type 0 where
  pub rounds : rules.rounds ≤ MAX_ROUNDS
  pub stays : rules.stays ≤ MAX_STAYS
  pub events : rules.events ≤ MAX_EVENTS

-- there is a CCB of this number
abbrev pub names_ccb : List Event → ℕ → Bool
names_ccb before ccb = nat_lt ccb (commands before)

-- that many freezes may be made or taken away at once
abbrev pub is_count : ℕ → Bool
is_count n = nat_lt 0 n && nat_le n MAX_FREEZES

-- one more CCB may be alive
abbrev pub has_ccb : Rules → List Event → Bool
has_ccb rules before = option_map_or (λ most. nat_lt (alive before) most) rules.ccbs true

-- one more stay may begin
abbrev pub has_stay : Rules → List Event → Bool
has_stay rules before = nat_lt (length (stays_begun before)) rules.stays

-- the lane's adapter has a head, and its first stay is the CCB's
unfoldable pub is_next : Topology → List Event → ℕ → ℕ → Bool
is_next c before lane ccb =
    is_some_and (λ a. is_some_and (λ (p : Passage). p.ccb == ccb) (next c before a)) (slice_get c.lanes lane)

-- what each kind of event asks of the events before it
abbrev pub is_allowed : Rules → Topology → List Event → Event → Bool
is_allowed rules c before (Submit driver device priority retries flags) =
    names_device c device && nat_le priority MAX_PRIORITY && nat_le retries MAX_RETRIES
    && has_ccb rules before && has_stay rules before
is_allowed rules c before (Send lane ccb) =
    names_lane c lane && names_ccb before ccb && is_next c before lane ccb
is_allowed rules c before (Done ccb outcome) =
    names_ccb before ccb && not (status_of outcome == 0) && is_in_flight before ccb
is_allowed rules c before (Requeue ccb) =
    names_ccb before ccb && has_stay rules before && is_recovering before ccb && wants_requeue before ccb
is_allowed rules c before (Finish ccb) =
    names_ccb before ccb && is_recovering before ccb && wants_finish before ccb
is_allowed rules c before (FreezeDev device count) =
    names_device c device && is_count count && nat_le (caller_count before device + count) MAX_FREEZES
is_allowed rules c before (ReleaseDev device count) =
    names_device c device && is_count count && nat_le count (caller_count before device)
is_allowed rules c before (FreezeSim sim count) =
    names_adapter c sim && is_count count && nat_le (adapter_freezes before sim + count) MAX_FREEZES
is_allowed rules c before (ReleaseSim sim) = names_adapter c sim && nat_le 1 (adapter_freezes before sim)
is_allowed rules c before (Adjust device openings) = names_device c device && are_openings openings
is_allowed rules c before Tick = not (has_in_flight before) && nat_lt (round before) rules.rounds

-- an event is legal after the events before it
unfoldable pub is_legal_event : Rules → Topology → List Event × Event → Bool
is_legal_event rules c (before, event) = nat_lt (length before) rules.events && is_allowed rules c before event

-- each event is legal at its place
unfoldable pub is_legal : Rules → Topology → List Event → Bool
is_legal rules c events = list_all (is_legal_event rules c) (prefixed events)
