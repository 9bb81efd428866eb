-- the table of who waited for whom
use Rattle.std.specs.Prelude.{ℕ, ◌+◌, ◌-◌, ◌==◌, if◌then◌else◌, List, [], ◌∷◌, flat_map, map, Option, Some, None, unwrap_or}
use Rattle.std.specs.List.{range_with_len}
use Rattle.event_rules.specs.Sorted.{sorted_by}
use Rattle.wait_causes.specs.declared.origin.Origin.{Origin}
use Rattle.wait_causes.specs.Tables.{greatest, stays_of}
use Rattle.wait_causes.specs.declared.table.Grouping.{Grouping}
use Rattle.wait_causes.specs.declared.explained_stay.ExplainedStay.{ExplainedStay}
use Rattle.wait_causes.specs.BlameAmounts.{amounts_of, who, Amounts}
pub use Rattle.wait_causes.specs.declared.blame.row.BlameRow.{BlameRow}

-- nobody, and the numbers below one
abbrev pub everybody : ℕ → List (Option ℕ)
everybody count = None ∷ map (λ n. Some n) (range_with_len 0 count)

-- the row of those of a number that waited for those of another, or for nobody, if they did
unfoldable pub row_of : ℕ → Option ℕ → Amounts → List BlameRow
row_of n m a = if a.waited == 0 then [] else record { waiting = n; by = m; waited = a.waited; avoidable = a.avoidable; cost = a.cost } ∷ []

unfoldable pub rows_for : (ℕ → ℕ → Option ℕ) → Grouping → List ExplainedStay → ℕ → Option ℕ → List BlameRow
rows_for who by stays count m = flat_map (λ n. row_of n m (amounts_of who m (stays_of by stays n))) (range_with_len 0 count)

unfoldable pub all_rows : (ℕ → ℕ → Option ℕ) → Grouping → List ExplainedStay → ℕ → List BlameRow
all_rows who by stays count = flat_map (rows_for who by stays count) (everybody count)

-- the costliest first; of equals by who waited, then by who was in the way, and nobody last
abbrev pub row_key : BlameRow → List ℕ
row_key r = (18446744073709551615 - r.cost) ∷ r.waiting ∷ unwrap_or r.by 4294967296 ∷ []

unfoldable pub blame_of : Origin → Grouping → List ExplainedStay → List BlameRow
blame_of o by stays = sorted_by row_key (all_rows (who o stays by) by stays (greatest by stays + 1))
