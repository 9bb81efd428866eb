-- what each ending of a run says of its events
use Rattle.std.specs.Prelude.{◌≡◌, ℕ, ◌<◌, Bool, true, false, List, [], length, get_or, count_by, sum_by}
use Rattle.std.specs.List.{list_all, list_any}
use Rattle.sim_worker.specs.Words.{round, ccbs, has_in_flight, is_recovering, waiting, Event, Submit, FreezeDev, ReleaseDev, FreezeSim, ReleaseSim, Adjust, Scenario, Step}
use Rattle.sim_worker.specs.Logs.{acts}
use Rattle.sim_worker.specs.Runs.{submits, submits_asked, is_over, may_tick}
pub use Rattle.sim_worker.specs.declared.ending.Ending.{Ending}
pub use Rattle.sim_worker.specs.declared.ending.Ending.TheVariants.{Drained, RoundsFull, HistoryFull}

-- Nothing is left to do after the drivers' rows: each stay was sent, and no CCB is in flight or waits for a decision.
pub record IsQuiet (events : List Event) : Type 0 where
  pub sent : waiting events ≡ []
  pub landed : has_in_flight events ≡ false
  pub decided : list_any (is_recovering events) (ccbs events) ≡ false

-- only drivers make events of this kind
abbrev pub is_call : Event → Bool
is_call (Submit driver device priority retries flags) = true
is_call (FreezeDev device count) = true
is_call (ReleaseDev device count) = true
is_call (FreezeSim sim count) = true
is_call (ReleaseSim sim) = true
is_call (Adjust device openings) = true
is_call _ = false

-- how many calls the rows of all drivers ask for
abbrev pub calls_asked : List (List Step) → ℕ
calls_asked drivers = sum_by (λ (steps : List Step). length (acts steps)) drivers

-- Each row of a driver is done: as many calls were made as the rows ask for, each submit was, and each pause is over. Nothing
-- is left.
pub record IsDrained (s : Scenario) (events : List Event) : Type 0 where
  pub calls : count_by is_call events ≡ calls_asked s.drivers
  pub submits : (d : ℕ) → submits d events ≡ submits_asked (get_or s.drivers d [])
  pub pauses : (d : ℕ) → list_all (is_over (round events)) (get_or s.drivers d []) ≡ true
  pub quiet : IsQuiet events

-- the rounds are as many as may be, and one more would open now, with room for its event
abbrev pub IsAtLastRound : Scenario → List Event → Type 0
IsAtLastRound s events = (round events ≡ s.limits.rounds) × (may_tick s.config s.limits events ≡ true) × (length events < s.limits.events)

-- Drained: all is done. Else there is more to do. Rounds full: this is the last round. History full: the events are as many as
-- may be. So one ending fits a history.
abbrev pub IsEnding : Scenario → List Event → Ending → Type 0
IsEnding s events Drained = IsDrained s events
IsEnding s events RoundsFull = (¬ IsDrained s events) × IsAtLastRound s events
IsEnding s events HistoryFull = (¬ IsDrained s events) × (length events ≡ s.limits.events)
