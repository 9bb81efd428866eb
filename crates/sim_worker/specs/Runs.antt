-- what a run of a script may be, on one thread or on many, by the list of its events
use Rattle.std.specs.Prelude.{◌≡◌, ℕ, ◌==◌, Bool, true, false, not, ◌&&◌, nat_le, List, ◌++◌, length, filter, Option, Some, None, is_some, option_and_then, if◌then◌else◌}
use Rattle.std.specs.List.{list_any, list_all, filter_map}
use Rattle.std.specs.Option.{option_map_or}
use Rattle.sim_worker.specs.Words.{Bounds, prefixed, Topology, Outcome, asks_requeue, is_some_and, is_send_of, last, head, stays_begun, Event, Submit, Send, Done, Tick, Step, next_case, Case}
use Rattle.trace_file.specs.declared.step.Step.TheVariants as step

-- ---- drivers

-- a driver's submits
abbrev pub is_submit_by : ℕ → Event → Bool
is_submit_by d (Submit driver device priority retries flags) = driver == d
is_submit_by d _ = false

abbrev pub submits : ℕ → List Event → List Event
submits d events = filter (is_submit_by d) events

-- the submits that a driver's rows ask for
abbrev pub submit_asked : Step → Option Event
submit_asked (step.Act (Submit driver device priority retries flags)) = Some (Submit driver device priority retries flags)
submit_asked _ = None

abbrev pub submits_asked : List Step → List Event
submits_asked steps = filter_map submit_asked steps

-- one list begins the other
abbrev pub IsPrefix : {X : Type 0} → List X → List X → Type 0
IsPrefix {X} front all = (rest : List X) × (front ++ rest ≡ all)

-- by this round a row's pause, if it is one, is over
abbrev pub is_over : ℕ → Step → Bool
is_over now (step.Pause n) = nat_le n now
is_over now _ = true

-- ---- lanes

abbrev pub lane_of : Event → Option ℕ
lane_of (Send lane ccb) = Some lane
lane_of _ = None

-- the lane that sent the CCB last
unfoldable pub sender : List Event → ℕ → Option ℕ
sender events ccb = option_and_then lane_of (last (is_send_of ccb) events)

-- the outcomes of the completions of what the lane sent, in order
abbrev pub outcome_by : ℕ → List Event × Event → Option Outcome
outcome_by lane (before, Done ccb outcome) = if is_some_and (λ l. l == lane) (sender before ccb) then Some outcome else None
outcome_by lane (before, _) = None

unfoldable pub outcomes_by : ℕ → List Event → List Outcome
outcomes_by lane events = filter_map (outcome_by lane) (prefixed events)

-- ---- the opening of a round

-- no adapter that has a lane has something to send
abbrev pub are_lanes_idle : Topology → List Event → Bool
are_lanes_idle c before = not (list_any (λ a. is_some (head c before a)) c.lanes)

-- the decision that the case asks for is a requeue, and as many stays began as may
abbrev pub is_stuck : Bounds → List Event → Case → Bool
is_stuck limits before case = asks_requeue case.class && nat_le limits.stays (length (stays_begun before))

-- no CCB waits for a decision, or none can be made on the one that completed first
abbrev pub may_recovery_rest : Bounds → List Event → Bool
may_recovery_rest limits before = option_map_or (is_stuck limits before) (next_case before) true

-- a round may open, as far as lanes and recovery are concerned
abbrev pub may_tick : Topology → Bounds → List Event → Bool
may_tick c limits before = are_lanes_idle c before && may_recovery_rest limits before

-- an event opens no round before it may
abbrev pub is_in_time : Topology → Bounds → List Event × Event → Bool
is_in_time c limits (before, Tick) = may_tick c limits before
is_in_time c limits (before, _) = true

abbrev pub are_ticks_in_time : Topology → Bounds → List Event → Bool
are_ticks_in_time c limits events = list_all (is_in_time c limits) (prefixed events)
