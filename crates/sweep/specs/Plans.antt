-- what is run in a sweep
use Rattle.std.specs.Prelude.{◌≡◌, ℕ, ◌*◌, ◌≤◌, true, List, length}
use Rattle.std.specs.List.{list_all}
use Rattle.sweep.specs.Settings.{Change}
use Rattle.sweep.specs.Choices.{are_open}
pub use Rattle.sweep.specs.declared.plan.TheConstants.{MAX_RUNS}

-- settings, and how many seeds run each
pub record Plan : Type 0 where
  pub settings : List (List Change)
  pub seeds : ℕ

-- openings such as there may be, a seed at least, and no more runs than there may be
pub record IsPlan (p : Plan) : Type 0 where
  pub openings : list_all are_open p.settings ≡ true
  pub some : 1 ≤ p.seeds
  pub few : length p.settings * p.seeds ≤ MAX_RUNS
