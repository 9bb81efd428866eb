-- an explanation as its callers see it
use Rattle.std.specs.Prelude.{ℕ, List}
use Rattle.wait_causes.specs.Origins.{Origin}

-- what is explained, and the round of each of its stays in the best schedule at the recorded pace, of which a trace has none, and
-- in the best schedule
pub record Explained : Type 0 where
  pub origin : Origin
  pub pace : List ℕ
  pub best : List ℕ
