-- what the rows of a table of blame add up to
use Rattle.std.specs.Prelude.{◌≡◌, ℕ, ◌==◌, List, filter, sum_by}
use Rattle.wait_causes.specs.Parts.{part_of}
use Rattle.wait_causes.specs.Tables.{stays_of}
use Rattle.wait_causes.specs.declared.explained_stay.ExplainedStay.{ExplainedStay}
use Rattle.wait_causes.specs.declared.known.Known.{Known}
use Rattle.wait_causes.specs.declared.origin.Origin.{Origin}
use Rattle.wait_causes.specs.declared.table.Grouping.{Grouping}
use Rattle.wait_causes.specs.BlameRows.{blame_of, BlameRow}

-- the rows of those that waited under a number
abbrev pub rows_of : List BlameRow → ℕ → List BlameRow
rows_of rows n = filter (λ (r : BlameRow). r.waiting == n) rows

-- of each number they have together all rounds that its stays waited, and all weighted rounds
abbrev pub BlameAddsUp : Type 0
BlameAddsUp = (o : Origin) (by : Grouping) (stays : List ExplainedStay) (known : Known) (n : ℕ) →
    (sum_by (λ (r : BlameRow). r.waited) (rows_of (blame_of o by stays) n) ≡ (part_of known (stays_of by stays n)).waited)
    × (sum_by (λ (r : BlameRow). r.cost) (rows_of (blame_of o by stays) n) ≡ (part_of known (stays_of by stays n)).live)
