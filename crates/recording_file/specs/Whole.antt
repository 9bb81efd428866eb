-- A text that was read whole, within a bound that goes by its first bytes.
use Rattle.std.specs.Prelude.{ℕ, ◌<◌, ◌≤◌, List, Bool, true, false, ◌||◌, length, take, Option, bytes_eq, if◌then◌else◌}
use Rattle.std.specs.Io.KnownBytes.{Consumes, IsAtEnd}
use Rattle.cam_types.specs.declared.limits.TheConstants.{MAX_BYTES}
use Rattle.recording_file.specs.Recorded.{MAX_RECORDING_BYTES}
use Rattle.recording_file.specs.Words.{name_text}

-- a text begins with the word of a recording
abbrev pub begins_recording : List ℕ → Bool
begins_recording text = bytes_eq (name_text false) (take 10 text) || bytes_eq (name_text true) (take 10 text)

-- how many bytes a text may have
unfoldable pub max_bytes : List ℕ → ℕ
max_bytes text = if begins_recording text then MAX_RECORDING_BYTES else MAX_BYTES

-- a reader's bytes before and after the text was read, which is all of them and within its bound
pub record IsLongWhole (before after : Option (List ℕ)) (text : List ℕ) : Type 0 where
  pub bounded : length text ≤ max_bytes text
  pub read : Consumes before after text
  pub ended : IsAtEnd after

-- more bytes came than they may be
abbrev pub IsTooLong : Option (List ℕ) → Option (List ℕ) → Type 0
IsTooLong before after = (came : List ℕ) × (max_bytes came < length came) × Consumes before after came
