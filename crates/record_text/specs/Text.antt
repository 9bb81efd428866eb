-- the records of a text
use Rattle.std.specs.Prelude.{ℕ, List}
use Rattle.csv.specs.Reading.{default_config, records, strip_bom}

-- a record: its fields, each of bytes
abbrev pub Row : Type 0
Row = List (List ℕ)

-- the records of a text: those of CSV, after a byte order mark if there is one
abbrev pub records_in : List ℕ → List Row
records_in text = records default_config (strip_bom text)
