-- what holds of every explanation
use Rattle.std.specs.Prelude.{◌≡◌, ℕ, List, length, IsTrue}
use Rattle.wait_causes.specs.Words.{history_rules, is_legal, IsSound}
use Rattle.wait_causes.specs.Origins.{Origin, instance_in, live_in}
use Rattle.wait_causes.specs.declared.origin.Origin.TheVariants as origin
use Rattle.wait_causes.specs.Stays.{explained, ExplainedStay}

-- a history is legal
abbrev pub IsLegalOf : Origin → Type 0
IsLegalOf (origin.Trace past) = IsTrue (is_legal history_rules past.config past.events)
IsLegalOf (origin.Recording r) = Unit {0}

-- the stays are those of a history or a recording with a sound net, and of schedules, the last of which has a round for each of
-- them
pub record IsExplained (o : Origin) (pace best : List ℕ) (stays : List ExplainedStay) : Type 0 where
  pub legal : IsLegalOf o
  pub sound : IsSound (instance_in o) (live_in o)
  pub all : length best ≡ (instance_in o).stays
  pub rows : stays ≡ explained o pace best
