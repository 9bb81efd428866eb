-- The records of a text by their numbers.
use Rattle.std.specs.Prelude.{◌≡◌, ◌-◌, ℕ, List, Some, slice_get}
use Rattle.record_text.specs.Text.{Row, records_in}

-- the record of this number, from 1 on, has these fields
abbrev pub IsNumbered : List ℕ → ℕ → Row → Type 0
IsNumbered text number row = slice_get (records_in text) (number - 1) ≡ Some row
