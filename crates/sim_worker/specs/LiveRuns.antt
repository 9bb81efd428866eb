-- what a run on many threads gives
use Rattle.std.specs.Prelude.{◌≡◌, ℕ, ◌<◌, Bool, true, false, List, [], ◌∷◌, ◌++◌, length, map, filter, get_or, slice_get, Some, IsTrue}
use Rattle.std.specs.List.{list_all, range_with_len}
use Rattle.sim_worker.specs.Words.{Past, round, Event, Scenario, Step, rules_of, is_legal, due_of, AreInterleaved, Held, SeatName, Driver, Lane, Recovery, Keeper}
use Rattle.sim_worker.specs.Endings.{IsQuiet, Ending, Drained, RoundsFull, HistoryFull}
use Rattle.sim_worker.specs.Logs.{IsDriverLog, IsLaneLog, Rests, HasDoneAll, is_decision, is_opening}
use Rattle.sim_worker.specs.Runs.{may_tick, are_ticks_in_time}
use Rattle.sim_worker.specs.Ports.{Served}

-- a driver's rows
abbrev pub rows : Scenario → ℕ → List Step
rows s d = get_or s.drivers d []

abbrev pub is_some_row : List Step → Bool
is_some_row [] = false
is_some_row (one ∷ more) = true

-- those of the first n drivers that have a row, and the first n lanes
abbrev pub drivers : Scenario → ℕ → List SeatName
drivers s n = map (λ d. Driver d) (filter (λ d. is_some_row (rows s d)) (range_with_len 0 n))

abbrev pub lanes : ℕ → List SeatName
lanes n = map (λ lane. Lane lane) (range_with_len 0 n)

-- the actors of a run in order: the drivers that have a row, the lanes, recovery and the round keeper
abbrev pub actors : Scenario → List SeatName
actors s = drivers s 8 ++ lanes (length s.config.lanes) ++ Recovery ∷ Keeper ∷ []

abbrev pub is_full : Ending → Bool
is_full HistoryFull = true
is_full _ = false

-- what a log says of what its actor did
abbrev pub IsLog : Scenario → List Event → List (List Served) → Bool → SeatName → Held → Type 0
IsLog s events served full (Driver d) h = IsDriverLog s (rows s d) h.receipts events
IsLog s events served full (Lane lane) h = IsLaneLog lane full h.receipts (get_or served lane [])
IsLog s events served full Recovery h = list_all is_decision h.receipts ≡ true
IsLog s events served full Keeper h = list_all is_opening h.receipts ≡ true

abbrev pub EachLog : (Held → Type 0) → List Held → Type 0
EachLog P logs = (i : ℕ) (h : Held) → slice_get logs i ≡ Some h → P h

abbrev pub EachDriver : (ℕ → Held → Type 0) → List Held → Type 0
EachDriver P logs = EachLog (λ h. (d : ℕ) → h.name ≡ Driver d → P d h) logs

-- each driver has done its rows, and nothing is left
abbrev pub IsAllDone : Scenario → List Event → List Held → Type 0
IsAllDone s events logs = EachDriver (λ d h. HasDoneAll (rows s d) h.receipts events) logs × IsQuiet events

-- the rounds are as many as may be, and one more would open now, with room for its event
abbrev pub IsLastRound : Scenario → List Event → List Held → Type 0
IsLastRound s events logs =
    (round events ≡ s.limits.rounds) × (may_tick s.config s.limits events ≡ true) × (length events < s.limits.events)
    × EachDriver (λ d h. Rests s (rows s d) h.receipts events) logs

-- Drained: all is done. Else there is more to do. Rounds full: this is the last round. History full: the events are as many as
-- may be. So one ending fits a history.
abbrev pub IsLiveEnding : Scenario → List Event → List Held → Ending → Type 0
IsLiveEnding s events logs Drained = IsAllDone s events logs
IsLiveEnding s events logs RoundsFull = (¬ IsAllDone s events logs) × IsLastRound s events logs
IsLiveEnding s events logs HistoryFull = (¬ IsAllDone s events logs) × (length events ≡ s.limits.events)

-- The history is of the script's configuration and legal by its limits. The actors' logs are in their order, and interleave to
-- what one thread would get. Each did what the script, or its port, says. No round opened before it might.
pub record IsLiveRun (s : Scenario) (h : Past) (logs : List Held) (served : List (List Served)) (stated : Ending) : Type 0 where
  pub config : h.config ≡ s.config
  pub legal : IsTrue (is_legal (rules_of s.limits) s.config h.events)
  pub names : map (λ (log : Held). log.name) logs ≡ actors s
  pub together : AreInterleaved (due_of h) logs
  pub each : EachLog (λ log. IsLog s h.events served (is_full stated) log.name log) logs
  pub ticks : IsTrue (are_ticks_in_time s.config s.limits h.events)
  pub over : IsLiveEnding s h.events logs stated
