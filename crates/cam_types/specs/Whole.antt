use Rattle.std.specs.Prelude.{ℕ, ◌<◌, ◌≤◌, List, length, take, Option}
use Rattle.std.specs.Io.KnownBytes.{Appends, Consumes, IsAtEnd}
use Rattle.cam_types.specs.Topology.{MAX_BYTES}

-- a reader's bytes before and after the text was read, which is all of them and at most that many
pub record IsWholeWithin (most : ℕ) (before after : Option (List ℕ)) (text : List ℕ) : Type 0 where
  pub bounded : length text ≤ most
  pub read : Consumes before after text
  pub ended : IsAtEnd after

-- more bytes came than that many
abbrev pub IsLongerThan : ℕ → Option (List ℕ) → Option (List ℕ) → Type 0
IsLongerThan most before after = (came : List ℕ) × (most < length came) × Consumes before after came

-- the same by the bound of traces
abbrev pub IsWhole : Option (List ℕ) → Option (List ℕ) → List ℕ → Type 0
IsWhole = IsWholeWithin MAX_BYTES

abbrev pub IsTooLong : Option (List ℕ) → Option (List ℕ) → Type 0
IsTooLong = IsLongerThan MAX_BYTES

-- what a writer holds after some of the text, from its start
abbrev pub AppendsFront : Option (List ℕ) → Option (List ℕ) → List ℕ → Type 0
AppendsFront before after text = (n : ℕ) × (n ≤ length text) × Appends before after (take n text)
