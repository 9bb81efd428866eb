-- what stays waited behind, and the rounds in which rows were full
use Rattle.std.specs.Prelude.{◌≡◌, ℕ, List, All}
use Rattle.wait_causes.specs.Behind.{all_behind}
use Rattle.wait_causes.specs.Origins.{Origin, known_of}
use Rattle.wait_causes.specs.Parts.{part_of, full_costs, all_behind_costs, Part}
use Rattle.wait_causes.specs.Stays.{explained, full_rounds, ExplainedStay}
use Rattle.wait_causes.specs.Tables.{stays_of, Grouping}

-- a stay's rounds behind others are those in which a row was full, and a part's costs too
abbrev pub IsSplit : ExplainedStay → Type 0
IsSplit s = all_behind s.behind ≡ full_rounds s.rounds

abbrev pub IsSplitPart : Part → Type 0
IsSplitPart p = all_behind_costs p.behind ≡ full_costs p.costs

-- so it is of each stay of an input, and of each part of a table
abbrev pub BehindAddsUp : Type 0
BehindAddsUp = (o : Origin) (pace best : List ℕ) →
    All IsSplit (explained o pace best) × ((by : Grouping) (n : ℕ) → IsSplitPart (part_of (known_of o) (stays_of by (explained o pace best) n)))
