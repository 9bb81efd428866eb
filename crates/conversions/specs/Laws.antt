-- what a script asks for and answers
use Rattle.std.specs.Prelude.{◌≡◌, ℕ, ◌<◌, ◌≤◌, ◌==◌, Bool, false, max, List, [], ◌∷◌, map, filter, filter_map, get_or, Option, Some, None}
use Rattle.std.specs.List.{AllByRecursion}
use Rattle.event_rules.specs.declared.event.Event.{Event}
use Rattle.event_rules.specs.declared.event.Event.TheVariants.{Submit}
use Rattle.recording_file.specs.declared.request.Request.{Request}
use Rattle.trace_file.specs.declared.step.Step.{Step}
use Rattle.trace_file.specs.declared.step.Step.TheVariants.{Act, Pause}
use Rattle.conversions.specs.Answers.{plain, served, lane_answers, answers_of, others}
use Rattle.conversions.specs.Arrivals.{Arrival, arrivals, requested}
use Rattle.conversions.specs.Steps.{submit, is_by, steps_of}

-- the event that a step calls for
abbrev pub act : Step → Option Event
act (Act event) = Some event
act (Pause r) = None

-- the driver submits
abbrev pub is_submit_by : ℕ → Event → Bool
is_submit_by d (Submit driver device priority retries flags) = driver == d
is_submit_by d _ = false

-- what steps ask for, each beside the round that the pauses before it wait for, from this round on
abbrev pub asked : ℕ → List Step → List (ℕ × Event)
asked now [] = []
asked now (Act event ∷ rest) = (now, event) ∷ asked now rest
asked now (Pause r ∷ rest) = asked (max now r) rest

-- an arrival as its round and its submit
abbrev pub timed : Arrival → ℕ × Event
timed a = (a.round, submit a.submission)

-- Each driver calls for its submits in the history, in their order, and for nothing else.
abbrev pub SubmitsAreInOrder : Type 0
SubmitsAreInOrder =
    (events : List Event) (d : ℕ) → filter_map act (steps_of (arrivals events) d) ≡ filter (is_submit_by d) events

-- Each driver asks for its submits in the rounds of the history.
abbrev pub SubmitsAreInTheirRounds : Type 0
SubmitsAreInTheirRounds =
    (events : List Event) (d : ℕ) → asked 1 (steps_of (arrivals events) d) ≡ map timed (filter (is_by d) (arrivals events))

-- Each driver asks for its requests in the rounds in which they arrived.
abbrev pub RequestsAreInTheirRounds : Type 0
RequestsAreInTheirRounds =
    (requests : List Request) (d : ℕ) → AllByRecursion (λ (q : Request). 1 ≤ q.arrival) requests
    → asked 1 (steps_of (requested requests) d) ≡ map timed (filter (is_by d) (requested requests))

-- A lane gives its k-th command the outcome that its k-th command had.
abbrev pub AnswersAreThoseServed : Type 0
AnswersAreThoseServed =
    (events : List Event) (lane k : ℕ) → get_or (lane_answers events lane) k plain ≡ get_or (served lane events) k plain

-- Where each answer is plain, each command came out plainly, and does so in each order.
abbrev pub PlainIsExact : Type 0
PlainIsExact =
    (events : List Event) (lanes lane k : ℕ) → lane < lanes → others (answers_of events lanes) ≡ 0
    → (lane_answers events lane ≡ []) × (get_or (served lane events) k plain ≡ plain)
