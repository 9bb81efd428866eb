-- what the logs of a run on many threads say of what each actor did
use Rattle.std.specs.Prelude.{◌≡◌, ℕ, ◌<◌, ◌≤◌, Bool, true, false, nat_lt, List, [], ◌∷◌, ◌++◌, length, take, map, filter, slice_get, Option, Some, None}
use Rattle.std.specs.List.{list_all, filter_map, flat_map}
use Rattle.sim_worker.specs.Words.{is_tick, round, Event, Send, Done, Requeue, Finish, Tick, rules_of, refusal, Refusal, HistoryFull, Command, Scenario, Step, Receipt, Reply}
use Rattle.trace_file.specs.declared.step.Step.TheVariants as step
use Rattle.xpt_state.specs.declared.reply.Reply.TheVariants as replies
use Rattle.sim_worker.specs.Runs.{is_over}
use Rattle.sim_worker.specs.Ports.{Served}

abbrev pub events_of : List Receipt → List Event
events_of log = map (λ (r : Receipt). r.event) log

-- ---- drivers

-- the events that rows call for, pauses left out
abbrev pub act : Step → Option Event
act (step.Act event) = Some event
act (step.Pause n) = None

abbrev pub acts : List Step → List Event
acts steps = filter_map act steps

-- the events of a log that happened before the place
abbrev pub made_before : ℕ → List Receipt → List Event
made_before place log = events_of (filter (λ (r : Receipt). nat_lt r.at place) log)

-- A driver stands at this row by a round in which it has made these events: they are those of the rows before it, and each
-- pause among these is over.
pub record StandsAt (steps : List Step) (events : List Event) (now row : ℕ) : Type 0 where
  pub within : row ≤ length steps
  pub made : events ≡ acts (take row steps)
  pub over : list_all (is_over now) (take row steps) ≡ true

-- Each event of the log is that of the row at which the driver stands there.
abbrev pub FollowsRows : List Step → List Receipt → List Event → Type 0
FollowsRows steps log events = (j : ℕ) (r : Receipt) → slice_get log j ≡ Some r → r.at < length events →
    (row : ℕ) × StandsAt steps (made_before r.at log) (round (take r.at events)) row × (slice_get steps row ≡ Some (step.Act r.event))

-- the refusal isn't that the history is full
abbrev pub is_of_rules : Option Refusal → Bool
is_of_rules None = false
is_of_rules (Some (HistoryFull n)) = false
is_of_rules (Some why) = true

-- at some place of this round at which the driver had made the calls that it has made now, the event was refused
pub record WasRefused (s : Scenario) (log : List Receipt) (before : List Event) (event : Event) : Type 0 where
  pub place : ℕ
  pub within : place ≤ length before
  pub same_round : round (take place before) ≡ round before
  pub same_calls : made_before place log ≡ made_before (length before) log
  pub refused : is_of_rules (refusal (rules_of s.limits) s.config (take place before) event) ≡ true

-- the row lets its driver rest: there is none, it waits for a later round, or its event was refused in this one
abbrev pub LetsRest : Scenario → List Receipt → List Event → Option Step → Type 0
LetsRest s log before None = Unit {0}
LetsRest s log before (Some (step.Pause n)) = round before < n
LetsRest s log before (Some (step.Act event)) = WasRefused s log before event

-- after these events a driver with these rows rests
pub record Rests (s : Scenario) (steps : List Step) (log : List Receipt) (before : List Event) : Type 0 where
  pub row : ℕ
  pub stands : StandsAt steps (made_before (length before) log) (round before) row
  pub rests : LetsRest s log before (slice_get steps row)

-- the driver has done all of its rows
abbrev pub HasDoneAll : List Step → List Receipt → List Event → Type 0
HasDoneAll steps log events = StandsAt steps (events_of log) (round events) (length steps)

-- A driver follows its rows, and rests where a round opens.
pub record IsDriverLog (s : Scenario) (steps : List Step) (log : List Receipt) (events : List Event) : Type 0 where
  pub follows : FollowsRows steps log events
  pub rests : (k : ℕ) → slice_get events k ≡ Some Tick → Rests s steps log (take k events)

-- ---- lanes

-- what a lane does for a command that its port serves: it sends it and completes it with the port's outcome
abbrev pub calls_for : ℕ → Served → List Event
calls_for lane one = Send lane one.command.ccb ∷ Done one.command.ccb one.outcome ∷ []

-- the commands that were given for sends
abbrev pub command_of : Receipt → Option Command
command_of r = sent_in r.reply
  where
    sent_in : Reply → Option Command
    sent_in (replies.Command c) = Some c
    sent_in _ = None

-- what the calls for a command give: the send gives the command, and the completion none
abbrev pub commands_for : Served → List (Option Command)
commands_for one = Some one.command ∷ None ∷ []

-- A lane's log is a send and a completion for each item that its port served, with that command and that outcome; of the
-- last the completion may lack, where the history is full.
pub record IsLaneLog (lane : ℕ) (full : Bool) (log : List Receipt) (served : List Served) : Type 0 where
  pub lacking : List Event
  pub events : events_of log ++ lacking ≡ flat_map (calls_for lane) served
  pub few : length lacking ≤ 1
  pub whole : full ≡ false → lacking ≡ []
  pub commands : map command_of log ≡ take (length log) (flat_map commands_for served)

-- ---- recovery and the round keeper

abbrev pub is_decision : Receipt → Bool
is_decision r = decides r.event
  where
    decides : Event → Bool
    decides (Requeue ccb) = true
    decides (Finish ccb) = true
    decides _ = false

abbrev pub is_opening : Receipt → Bool
is_opening r = is_tick r.event
