-- the rows of two tables side by side, and the tables
use Rattle.std.specs.Prelude.{◌≡◌, ℕ, Bool, false, List, Option, sum_by, count_by}
use Rattle.std.specs.Option.{option_map_or}
use Rattle.recording_file.specs.Names.{NameValue}
use Rattle.recording_file.specs.declared.name.NameKind.{NameKind}
use Rattle.wait_causes.specs.Origins.{Known}
use Rattle.wait_causes.specs.Tables.{table_of}
use Rattle.wait_causes.specs.declared.explained_stay.ExplainedStay.{ExplainedStay}
use Rattle.wait_causes.specs.declared.table.Grouping.{Grouping}
use Rattle.wait_causes.specs.declared.table.Row.{Row}
use Rattle.wait_causes.specs.Keys.{is_pair}
use Rattle.wait_causes.specs.Pairs.{paired, PairedRow}

-- an amount of a row, and 0 of none
abbrev pub amount_in : (Row → ℕ) → Option Row → ℕ
amount_in amount row = option_map_or amount row 0

-- a test of a row, which no row doesn't pass
abbrev pub passes : (Row → Bool) → Option Row → Bool
passes test row = option_map_or test row false

-- Of each amount the rows before have together in pairs what they have in the table before, and the rows after what they have
-- in the table after. These have together what all stays have (RowsAddUp): so the differences of pairs add up to that of the
-- wholes.
abbrev pub PairsAddUp : Type 0
PairsAddUp = (kind : Option NameKind) (was now : List NameValue) (by : Grouping) (known known_after : Known) (before after : List ExplainedStay) (amount : Row → ℕ) →
    (sum_by (λ (pair : PairedRow). amount_in amount pair.before) (paired (is_pair kind was now) (table_of known by before) (table_of known_after by after)) ≡ sum_by amount (table_of known by before))
    × (sum_by (λ (pair : PairedRow). amount_in amount pair.after) (paired (is_pair kind was now) (table_of known by before) (table_of known_after by after)) ≡ sum_by amount (table_of known_after by after))

-- As many rows before pass a test in pairs as in the table before, and as many after as in the table after: so each row of a
-- table stands in exactly one pair.
abbrev pub RowsPairOnce : Type 0
RowsPairOnce = (kind : Option NameKind) (was now : List NameValue) (by : Grouping) (known known_after : Known) (before after : List ExplainedStay) (test : Row → Bool) →
    (count_by (λ (pair : PairedRow). passes test pair.before) (paired (is_pair kind was now) (table_of known by before) (table_of known_after by after)) ≡ count_by test (table_of known by before))
    × (count_by (λ (pair : PairedRow). passes test pair.after) (paired (is_pair kind was now) (table_of known by before) (table_of known_after by after)) ≡ count_by test (table_of known_after by after))
