-- why a lane that asks for the next command is refused
use Rattle.std.specs.Prelude.{ℕ, not, nat_le, List, [], ◌∷◌, length, Option}
use Rattle.xpt_state.specs.Words.{Topology, Event, names_lane, Rules, first_cause, Refusal, HistoryFull, NoLane}

-- the history is full, or there is no such lane: the first that holds
abbrev pub lane_refusal : Rules → Topology → List Event → ℕ → Option Refusal
lane_refusal rules c events lane =
    first_cause ((nat_le rules.events (length events), HistoryFull (length events)) ∷ (not (names_lane c lane), NoLane) ∷ [])
