-- the front of a text
use Rattle.std.specs.Prelude.{◌≡◌, ◌⊎◌, ◌≤◌, ◌<◌, ◌++◌, ◌∷◌, [], ℕ, List, length, Result, Err}
use Rattle.record_text.specs.Text.{Row, records_in}

-- the most fields that a record of a reader has
abbrev pub max_fields : ℕ
max_fields = 8

-- The records of a front are those of the whole text up to one that has too many fields, of which the front has some, and
-- also too many.
pub record IsCut (whole front : List Row) : Type 0 where
  pub before : List Row
  pub long : Row
  pub rest : List Row
  pub begun : Row
  pub all : whole ≡ before ++ long ∷ rest
  pub part : front ≡ before ++ begun ∷ []
  pub exceeds : max_fields < length long
  pub exceeded : max_fields < length begun

-- a front is all of the text, or ends in its first record of too many fields
pub record IsFront (text front : List ℕ) : Type 0 where
  pub shorter : length front ≤ length text
  pub says : (front ≡ text) ⊎ IsCut (records_in text) (records_in front)

-- a record of too many fields is refused, whatever its fields are
abbrev pub RefusesLong : {S E : Type 0} → (ℕ → S → Row → Result S E) → Type 0
RefusesLong {S} {E} step = (fault : ℕ → S → E) × ((n : ℕ) (s : S) (row : Row) → max_fields < length row → step n s row ≡ Err (fault n s))
