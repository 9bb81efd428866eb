-- what lanes answer
use Rattle.std.specs.Prelude.{ℕ, ◌-◌, ◌==◌, ◌&&◌, Bool, not, if◌then◌else◌, List, [], ◌∷◌, ◌++◌, Option, Some, None, option_to_list, length, map, take, reverse, find, count_by, sum_by, unwrap_or, option_and_then}
use Rattle.std.specs.List.{range_with_len, position_or_len}
use Rattle.cam_types.specs.declared.outcome.Outcome.{Outcome}
use Rattle.event_rules.specs.Counts.{is_in_flight, ccbs}
use Rattle.event_rules.specs.declared.event.Event.{Event}
use Rattle.event_rules.specs.declared.event.Event.TheVariants.{Send}
use Rattle.event_rules.specs.Event.{is_done_of, outcome_of}

-- what a lane answers without any answer of the script
abbrev pub plain : Outcome
plain = record { status = 1; scsi = 0; sense = [] }

abbrev pub is_plain : Outcome → Bool
is_plain o = (o.status == 1) && ((o.scsi == 0) && (length o.sense == 0))

abbrev pub is_other : Outcome → Bool
is_other o = not (is_plain o)

-- the outcome of a command that was sent before these events: that of its CCB's first completion there; a command that stays
-- in flight counts as plainly completed
unfoldable pub outcome_in : ℕ → List Event → Outcome
outcome_in ccb later = unwrap_or (option_and_then outcome_of (find (is_done_of ccb) later)) plain

-- the outcome of what an event before these sends, if it is a send by the lane
abbrev pub sent_outcome : ℕ → Event → List Event → Option Outcome
sent_outcome lane (Send by ccb) later = if by == lane then Some (outcome_in ccb later) else None
sent_outcome lane _ later = None

-- the outcomes of the commands that a lane sent, in the order in which it sent them
unfoldable pub served : ℕ → List Event → List Outcome
served lane [] = []
served lane (event ∷ later) = option_to_list (sent_outcome lane event later) ++ served lane later

-- the outcomes up to the last one that isn't plain
unfoldable pub up_to_other : List Outcome → List Outcome
up_to_other outcomes = take (length outcomes - position_or_len is_other (reverse outcomes)) outcomes

-- a lane's answers: the outcomes of what it sent, but for the plain ones at the end
unfoldable pub lane_answers : List Event → ℕ → List Outcome
lane_answers events lane = up_to_other (served lane events)

-- the answers of that many lanes
unfoldable pub answers_of : List Event → ℕ → List (List Outcome)
answers_of events lanes = map (lane_answers events) (range_with_len 0 lanes)

-- how many of the answers aren't plain
abbrev pub others : List (List Outcome) → ℕ
others answers = sum_by (count_by is_other) answers

-- how many commands are in flight after these events
unfoldable pub in_flight : List Event → ℕ
in_flight events = count_by (is_in_flight events) (ccbs events)
