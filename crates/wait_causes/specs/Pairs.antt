-- the rows of two tables side by side
use Rattle.std.specs.Prelude.{ℕ, ◌+◌, ◌==◌, Bool, max, if◌then◌else◌, List, [], ◌∷◌, ◌++◌, find, flat_map, fold, Option, Some, None}
use Rattle.std.specs.List.{range_with_len, list_any}
use Rattle.wait_causes.specs.declared.table.Row.{Row}
pub use Rattle.wait_causes.specs.declared.pairs.PairedRow.{PairedRow}

-- one more than the greatest number of a table's rows, and 0 of none
unfoldable pub numbers : List Row → ℕ
numbers rows = fold (λ n (r : Row). max n (r.number + 1)) 0 rows

-- the row of a number
abbrev pub row_at : List Row → ℕ → Option Row
row_at rows n = find (λ (r : Row). r.number == n) rows

-- a row before, beside the row after that is a pair with it, if there is one
abbrev pub pair_of : (ℕ → ℕ → Bool) → List Row → Option Row → List PairedRow
pair_of is_pair after None = []
pair_of is_pair after (Some r) = record { before = Some r; after = find (λ (s : Row). is_pair r.number s.number) after } ∷ []

-- a row after alone, if no row before is a pair with it
abbrev pub alone : (ℕ → ℕ → Bool) → List Row → Option Row → List PairedRow
alone is_pair before None = []
alone is_pair before (Some s) = if list_any (λ (r : Row). is_pair r.number s.number) before then [] else record { before = None; after = Some s } ∷ []

-- what stands at a number: the row of it before with its partner, and then that of it after, if it has none
unfoldable pub pairs_at : (ℕ → ℕ → Bool) → List Row → List Row → ℕ → List PairedRow
pairs_at is_pair before after n = pair_of is_pair after (row_at before n) ++ alone is_pair before (row_at after n)

-- the rows of both tables by ascending number
unfoldable pub paired : (ℕ → ℕ → Bool) → List Row → List Row → List PairedRow
paired is_pair before after = flat_map (pairs_at is_pair before after) (range_with_len 0 (max (numbers before) (numbers after)))
