-- how far a run on one thread is
use Rattle.std.specs.Prelude.{◌≡◌, ℕ, ◌+◌, ◌*◌, ◌-◌, ◌≤◌, ◌<◌, Bool, true, false, not, ◌&&◌, ◌||◌, List, [], ◌∷◌, ◌++◌, length, take, get_or, slice_get, count_by, sum_by, Option, Some, None, is_some, IfSome, if◌then◌else◌, nat_lt, option_map}
use Rattle.std.specs.List.{list_all}
use Rattle.sim_worker.specs.Words.{Outcome, rules_of, is_legal, is_some_and, round, is_in_flight, Event, Scenario, IsScenario, is_answer, Step, Transport, next_case, has_head, Case, asks_requeue, Refusal, HistoryFull, Requeue, Finish, waiting, refused}
use Rattle.trace_file.specs.declared.step.Step.TheVariants as step
use Rattle.sim_worker.specs.Ports.{first_answers, outcomes}
use Rattle.sim_worker.specs.Held.{is_held_up}
use Rattle.sim_worker.specs.Endings.{is_call}
use Rattle.sim_worker.specs.Logs.{acts}
use Rattle.sim_worker.specs.SimRuns.{calls, calls_by}
use Rattle.sim_worker.specs.Runs.{submits, submits_asked, is_over, sender, outcomes_by, are_ticks_in_time}
use Rattle.sim_worker.specs.declared.actor.Actor.{Actor}
use Rattle.sim_worker.specs.declared.actor.Actor.TheVariants as actor
pub use Rattle.sim_worker.specs.declared.work.Driver.{Driver}
pub use Rattle.sim_worker.specs.declared.work.Hand.{Hand}
pub use Rattle.sim_worker.specs.declared.work.Lane.{Lane}

-- the script, the transport, how far each driver is, what each lane has in hand, and whether recovery's decision was refused
-- in this round
pub record Work : Type 0 where
  pub script : Scenario
  pub transport : Transport
  pub drivers : List Driver
  pub lanes : List Lane
  pub refused : Bool

-- a driver's steps
abbrev pub steps_of : Scenario → ℕ → List Step
steps_of s d = get_or s.drivers d []

-- What a driver submitted are the submits of the rows that it has done, and each pause among these is over.
pub record HasDone (steps : List Step) (d : ℕ) (events : List Event) (done : ℕ) : Type 0 where
  pub within : done ≤ length steps
  pub submits : submits d events ≡ submits_asked (take done steps)
  pub pauses : list_all (is_over (round events)) (take done steps) ≡ true

-- some driver made each call, and those of each driver are the calls of the rows that it has done
pub record AreMade (s : Scenario) (events : List Event) (drivers : List Driver) : Type 0 where
  pub makers : List ℕ
  pub each : length makers ≡ length (calls events)
  pub known : list_all (λ d. nat_lt d 8) makers ≡ true
  pub rows : (d : ℕ) (w : Driver) → slice_get drivers d ≡ Some w → calls_by d makers (calls events) ≡ acts (take w.done (steps_of s d))

abbrev pub AreDriversAt : Scenario → List Event → List Driver → Type 0
AreDriversAt s events drivers = (d : ℕ) (w : Driver) → slice_get drivers d ≡ Some w → HasDone (steps_of s d) d events w.done

-- the outcome of the command in hand
abbrev pub outcome_in_hand : Option Hand → List Outcome
outcome_in_hand None = []
outcome_in_hand (Some h) = h.outcome ∷ []

-- how many calls a driver's first rows ask for
abbrev pub calls_of : List Step → ℕ → ℕ
calls_of steps done = length (acts (take done steps))

-- how many calls the drivers made, by the rows that they have done
abbrev pub calls_done : List Driver → List (List Step) → ℕ
calls_done [] rows = 0
calls_done (w ∷ ws) [] = 0
calls_done (w ∷ ws) (steps ∷ rows) = calls_of steps w.done + calls_done ws rows

-- What a lane's port served came to the outcomes in the history, but for the command in hand, which is in flight.
pub record HasServed (s : Scenario) (lane : ℕ) (events : List Event) (w : Lane) : Type 0 where
  pub number : w.number ≡ lane
  pub answers : w.port.answers ≡ get_or s.answers lane []
  pub given : outcomes w.port.served ≡ first_answers w.port.answers (length w.port.served)
  pub served : outcomes w.port.served ≡ outcomes_by lane events ++ outcome_in_hand w.hand
  pub hand : IfSome w.hand (λ (h : Hand). (is_in_flight events h.ccb ≡ true) × (sender events h.ccb ≡ Some lane))
  pub answer : IfSome w.hand (λ (h : Hand). is_answer h.outcome ≡ true)

abbrev pub AreLanesAt : Scenario → List Event → List Lane → Type 0
AreLanesAt s events lanes = (lane : ℕ) (w : Lane) → slice_get lanes lane ≡ Some w → HasServed s lane events w

-- some lane has the CCB in hand
abbrev pub IsInHand : List Lane → ℕ → Type 0
IsInHand lanes ccb = (lane : ℕ) × (w : Lane) × (slice_get lanes lane ≡ Some w) × (option_map (λ (h : Hand). h.ccb) w.hand ≡ Some ccb)

abbrev pub AreInHand : List Event → List Lane → Type 0
AreInHand events lanes = (ccb : ℕ) → is_in_flight events ccb ≡ true → IsInHand lanes ccb

-- each lane has its number and its answers, has served nothing and has nothing in hand
abbrev pub AreFresh : Scenario → List Lane → Type 0
AreFresh s lanes = (lane : ℕ) (w : Lane) → slice_get lanes lane ≡ Some w →
    (w.number ≡ lane) × (w.port.answers ≡ get_or s.answers lane []) × (w.port.served ≡ []) × (w.hand ≡ None)

pub record IsWork (w : Work) : Type 0 where
  pub scenario : IsScenario w.script
  pub a_round : 1 ≤ w.script.limits.rounds
  pub legal : is_legal w.transport.rules w.transport.config w.transport.events ≡ true
  pub config : w.transport.config ≡ w.script.config
  pub rules : w.transport.rules ≡ rules_of w.script.limits
  pub eight : length w.drivers ≡ 8
  pub size : length w.lanes ≡ length w.script.config.lanes
  pub drivers : AreDriversAt w.script w.transport.events w.drivers
  pub made : AreMade w.script w.transport.events w.drivers
  pub calls : count_by is_call w.transport.events ≡ calls_done w.drivers w.script.drivers
  pub strangers : (d : ℕ) → 8 ≤ d → submits d w.transport.events ≡ []
  pub lanes : AreLanesAt w.script w.transport.events w.lanes
  pub flights : AreInHand w.transport.events w.lanes
  pub ticks : are_ticks_in_time w.script.config w.script.limits w.transport.events ≡ true

-- ---- whose turn it may be

-- the event that a step calls for
abbrev pub call_of : Option Step → Option Event
call_of (Some (step.Act event)) = Some event
call_of _ = None

-- the driver's next row calls for an event, and wasn't refused in this round
abbrev pub is_driver_able : Scenario → ℕ → Driver → Bool
is_driver_able s d w = not w.refused && is_some (call_of (slice_get (steps_of s d) w.done))

-- the lane has a command in hand, or could send one
abbrev pub is_lane_able : Transport → ℕ → Lane → Bool
is_lane_able t lane w = is_some w.hand || has_head t.config t.events w.number

-- a CCB waits for a decision, and none was refused in this round, or it could be made now
abbrev pub is_recovery_able : Work → Bool
is_recovery_able w = is_some_and (λ case. not w.refused || not (is_held_up w.transport case)) (next_case w.transport.events)

abbrev pub is_able : Work → Actor → Bool
is_able w (actor.Driver d) = is_some_and (is_driver_able w.script d) (slice_get w.drivers d)
is_able w (actor.Lane lane) = is_some_and (is_lane_able w.transport lane) (slice_get w.lanes lane)
is_able w actor.Recovery = is_recovery_able w

-- the lane has nothing in hand, room for one more command, and something to send
pub record IsToSend (w : Work) (lane : ℕ) : Type 0 where
  pub worker : Lane
  pub there : slice_get w.lanes lane ≡ Some worker
  pub empty : worker.hand ≡ None
  pub room : 0 < worker.port.room
  pub head : has_head w.transport.config w.transport.events lane ≡ true

-- the actors in order: drivers, lanes, recovery
abbrev pub actor_at : ℕ → ℕ → Actor
actor_at lanes i = if nat_lt i 8 then actor.Driver i else if nat_lt i (8 + lanes) then actor.Lane (i - 8) else actor.Recovery

-- no driver stands at a pause that is over
abbrev pub AreBehindPauses : Work → Type 0
AreBehindPauses w = (d : ℕ) (x : Driver) (r : ℕ) → slice_get w.drivers d ≡ Some x → slice_get (steps_of w.script d) x.done ≡ Some (step.Pause r) → round w.transport.events < r

-- the decision that a case's class asks for
abbrev pub decision_of : Case → Event
decision_of case = if asks_requeue case.class then Requeue case.ccb else Finish case.ccb

-- the refusal says that the history is full
abbrev pub is_full : Refusal → Bool
is_full (HistoryFull n) = true
is_full _ = false

-- each driver has done its rows
abbrev pub AreDriversDone : Work → Type 0
AreDriversDone w = (d : ℕ) (x : Driver) → slice_get w.drivers d ≡ Some x → length (steps_of w.script d) ≤ x.done

-- each driver has done its rows, no case is left and no stay waits
pub record IsAtEnd (w : Work) : Type 0 where
  pub rows : AreDriversDone w
  pub cases : next_case w.transport.events ≡ None
  pub sent : waiting w.transport.events ≡ []

-- ---- how much there may be to come: ten for each event, and one for each that wasn't refused in this round

abbrev pub fresh : Bool → ℕ
fresh refused = if refused then 0 else 1

abbrev pub fresh_drivers : List Driver → ℕ
fresh_drivers drivers = sum_by (λ (w : Driver). fresh w.refused) drivers

unfoldable pub left : Work → ℕ
left w = (w.transport.rules.events - length w.transport.events) * 10 + fresh_drivers w.drivers + fresh w.refused
