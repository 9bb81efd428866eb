-- the steps of drivers
use Rattle.std.specs.Prelude.{ℕ, ◌==◌, Bool, if◌then◌else◌, nat_lt, List, [], ◌∷◌, ◌++◌, map, filter, fold}
use Rattle.std.specs.List.{flat_map, range_with_len}
use Rattle.cam_types.specs.Lists.{prefixed}
use Rattle.event_rules.specs.declared.event.Event.{Event}
use Rattle.event_rules.specs.declared.event.Event.TheVariants.{Submit}
use Rattle.event_rules.specs.declared.submission.Submission.{Submission}
use Rattle.trace_file.specs.declared.step.Step.{Step}
use Rattle.trace_file.specs.declared.step.Step.TheVariants.{Act, Pause}
use Rattle.conversions.specs.Arrivals.{Arrival}

-- the event that submits it
abbrev pub submit : Submission → Event
submit s = Submit s.driver s.device s.priority s.retries s.flags

-- the driver asked for it
abbrev pub is_by : ℕ → Arrival → Bool
is_by d a = a.submission.driver == d

-- the round of the last of these, and 1 where there is none
abbrev pub last_round : List Arrival → ℕ
last_round as' = fold (λ r (a : Arrival). a.round) 1 as'

-- a submit in this round or a later one: for a later one there is a pause first
abbrev pub steps_from : ℕ → Arrival → List Step
steps_from now a = (if nat_lt now a.round then Pause a.round ∷ [] else []) ++ Act (submit a.submission) ∷ []

-- the steps of an arrival, after those of the arrivals before it
abbrev pub steps_at : List Arrival × Arrival → List Step
steps_at m = steps_from (last_round m.0) m.1

-- the steps of a driver that asked for these
unfoldable pub steps_for : List Arrival → List Step
steps_for own = flat_map steps_at (prefixed own)

-- a driver's steps: its own arrivals in their order, each after a pause if its round is later than that of the one before
unfoldable pub steps_of : List Arrival → ℕ → List Step
steps_of all d = steps_for (filter (is_by d) all)

-- the steps of each of the 8 drivers
unfoldable pub drivers_of : List Arrival → List (List Step)
drivers_of all = map (steps_of all) (range_with_len 0 8)
