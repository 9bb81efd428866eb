-- what a run on one thread gives
use Rattle.std.specs.Prelude.{◌≡◌, ℕ, ◌<◌, ◌==◌, List, [], ◌∷◌, length, get_or, filter, IsTrue, if◌then◌else◌}
use Rattle.sim_worker.specs.Words.{rules_of, is_legal, Event, Past, Scenario}
use Rattle.sim_worker.specs.Endings.{IsEnding, Ending, is_call}
use Rattle.sim_worker.specs.Logs.{acts}
use Rattle.sim_worker.specs.Ports.{first_answers}
use Rattle.sim_worker.specs.Runs.{submits, submits_asked, outcomes_by, IsPrefix, are_ticks_in_time}

-- what drivers did: their submits, freezes, releases and adjustments
abbrev pub calls : List Event → List Event
calls events = filter is_call events

-- the calls of one driver, of a list that says for each call who made it
abbrev pub calls_by : ℕ → List ℕ → List Event → List Event
calls_by d [] calls = []
calls_by d (maker ∷ makers) [] = []
calls_by d (maker ∷ makers) (call ∷ calls) = if maker == d then call ∷ calls_by d makers calls else calls_by d makers calls

-- Some driver made each call, and those of each driver are the first of its rows' calls, in their order.
pub record AreByRows (s : Scenario) (events : List Event) : Type 0 where
  pub makers : List ℕ
  pub each : length makers ≡ length (calls events)
  pub rows : (d : ℕ) → IsPrefix (calls_by d makers (calls events)) (acts (get_or s.drivers d []))

-- The history is of the script's configuration and legal by its limits. What drivers did is what their rows say, and what a
-- driver submitted has its number. What a lane's commands came to are the first of its port's answers. No round opened before
-- it might.
pub record IsSimRun (s : Scenario) (h : Past) (stated : Ending) : Type 0 where
  pub config : h.config ≡ s.config
  pub legal : IsTrue (is_legal (rules_of s.limits) s.config h.events)
  pub calls : AreByRows s h.events
  pub submits : (d : ℕ) → IsPrefix (submits d h.events) (submits_asked (get_or s.drivers d []))
  pub outcomes : (lane : ℕ) → lane < length s.answers →
      outcomes_by lane h.events ≡ first_answers (get_or s.answers lane []) (length (outcomes_by lane h.events))
  pub ticks : IsTrue (are_ticks_in_time s.config s.limits h.events)
  pub over : IsEnding s h.events stated
