-- The typed fields of a record: how each is parsed.
use Rattle.std.specs.Prelude.{ℕ, ◌+◌, ◌==◌, ⊤, nat_le, nat_lt, if◌then◌else◌, List, [], ◌∷◌, length, drop, Option, Some, None, unwrap_or, Result, Ok, Err, ok_or}
use Rattle.csv.specs.Records.{field_at}
use Rattle.cam_types.specs.Number.{number_of}
use Rattle.record_text.specs.Steps.{◌>>=◌}
use Rattle.record_text.specs.Text.{Row}

-- the field at a place from 0 on, which has no byte where the record is shorter
abbrev pub field_of : Row → ℕ → List ℕ
field_of row at = unwrap_or (field_at row at) []

-- what a field's form gives, or else the field's number
abbrev pub formed : {X : Type 0} → Option X → ℕ → Result X ℕ
formed value at = ok_or value (at + 1)

-- the largest number of a record
abbrev pub max_number : ℕ
max_number = 4294967295

-- a number of at most `most`
unfoldable pub number_at : Row → ℕ → ℕ → Result ℕ ℕ
number_at row at most = formed (number_of most (field_of row at)) at

-- the same, or none where the field has no byte
unfoldable pub optional_at : Row → ℕ → ℕ → Result (Option ℕ) ℕ
optional_at row at most = if length (field_of row at) == 0 then Ok None else (number_at row at most >>= λ n. Ok (Some n))

-- a number from `least` to `most`
unfoldable pub within_at : Row → ℕ → ℕ → ℕ → Result ℕ ℕ
within_at row at least most = number_at row at most >>= λ n. if nat_le least n then Ok n else Err (at + 1)

-- a number below `count`
unfoldable pub below_at : Row → ℕ → ℕ → Result ℕ ℕ
below_at row at count = number_at row at max_number >>= λ n. if nat_lt n count then Ok n else Err (at + 1)

-- fields that aren't used have no byte: the number of the first that has one, where the first field has this number
abbrev pub unused : ℕ → Row → Result ⊤ ℕ
unused number [] = Ok tt
unused number (field ∷ fields) = if length field == 0 then unused (number + 1) fields else Err number

-- the fields from this place on are unused
unfoldable pub unused_from : Row → ℕ → Result ⊤ ℕ
unused_from row at = unused (at + 1) (drop at row)
