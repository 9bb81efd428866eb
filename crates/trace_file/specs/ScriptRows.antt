-- The records of a script after its configuration: how each is spelled, and what it says.
use Rattle.std.specs.Prelude.{ℕ, ◌+◌, nat_le, if◌then◌else◌, List, [], ◌∷◌, Option, Result, Ok, Err, codes, decimal, find, bytes_eq}
use Rattle.cam_types.specs.Bounds.{Bounds}
use Rattle.cam_types.specs.declared.limits.TheConstants.{MAX_CCBS, MAX_ROUNDS, MAX_STAYS, MAX_EVENTS}
use Rattle.cam_path.specs.Paths as path
use Rattle.cam_path.specs.declared.path.CamPath.{CamPath}
pub use Rattle.trace_file.specs.declared.script_row.ScriptRow.{ScriptRow}
use Rattle.trace_file.specs.declared.script_row.ScriptRow.TheVariants as row
pub use Rattle.trace_file.specs.declared.script_word.ScriptWord.{ScriptWord}
use Rattle.trace_file.specs.declared.script_word.ScriptWord.TheVariants as word
use Rattle.trace_file.specs.Fields.{flags_at, flags_text}
use Rattle.record_text.specs.Text.{Row}
use Rattle.record_text.specs.Fields.{field_of, number_at, unused_from, max_number}
use Rattle.trace_file.specs.Records.{hex}
use Rattle.record_text.specs.ConfigRows.{padded}
use Rattle.trace_file.specs.Rows.{outcome_at}
use Rattle.trace_file.specs.ScriptVersions.{script_name, ScriptVersion}
use Rattle.record_text.specs.Steps.{◌>>=◌}
use Rattle.record_text.specs.Header.{header_row}

-- how a word is spelled
abbrev pub spelled : ScriptWord → List ℕ
spelled word.Submit = codes "submit"
spelled word.Freeze = codes "freeze"
spelled word.Release = codes "release"
spelled word.FreezeSim = codes "sfreeze"
spelled word.ReleaseSim = codes "srelease"
spelled word.Adjust = codes "adjust"
spelled word.Pause = codes "pause"
spelled word.Answer = codes "answer"

abbrev pub all_words : List ScriptWord
all_words =
    word.Submit ∷ word.Freeze ∷ word.Release ∷ word.FreezeSim ∷ word.ReleaseSim ∷ word.Adjust ∷ word.Pause ∷ word.Answer ∷ []

-- the word that a field spells
unfoldable pub script_word_of : List ℕ → Option ScriptWord
script_word_of field = find (λ w. bytes_eq field (spelled w)) all_words

-- the header of a version, the limits, and a row
abbrev pub script_header : ScriptVersion → Row
script_header v = header_row (script_name v)

abbrev pub limits_row : Bounds → Row
limits_row b = padded (codes "limits" ∷ decimal b.ccbs ∷ decimal b.rounds ∷ decimal b.stays ∷ decimal b.events ∷ [])

abbrev pub script_row : ScriptRow → Row
script_row (row.Submit driver at priority retries flags) =
    padded (spelled word.Submit ∷ decimal driver ∷ path.spelled at ∷ decimal priority ∷ decimal retries ∷ flags_text flags ∷ [])
script_row (row.Freeze driver at count) = padded (spelled word.Freeze ∷ decimal driver ∷ path.spelled at ∷ decimal count ∷ [])
script_row (row.Release driver at count) = padded (spelled word.Release ∷ decimal driver ∷ path.spelled at ∷ decimal count ∷ [])
script_row (row.FreezeSim driver sim count) = padded (spelled word.FreezeSim ∷ decimal driver ∷ decimal sim ∷ decimal count ∷ [])
script_row (row.ReleaseSim driver sim) = padded (spelled word.ReleaseSim ∷ decimal driver ∷ decimal sim ∷ [])
script_row (row.Adjust driver at openings) = padded (spelled word.Adjust ∷ decimal driver ∷ path.spelled at ∷ decimal openings ∷ [])
script_row (row.Pause driver round) = padded (spelled word.Pause ∷ decimal driver ∷ decimal round ∷ [])
script_row (row.Answer lane outcome) =
    padded (spelled word.Answer ∷ decimal lane ∷ hex (outcome.status ∷ []) ∷ hex (outcome.scsi ∷ []) ∷ hex outcome.sense ∷ [])

-- ---- what the fields say, or the number of the first that hasn't its form

-- a limit from 1 to the most that there may be
unfoldable pub limit_at : Row → ℕ → ℕ → Result ℕ ℕ
limit_at row at most = number_at row at most >>= λ n. if nat_le 1 n then Ok n else Err (at + 1)

unfoldable pub limits_at : Row → Result Bounds ℕ
limits_at row = do
  ccbs ← limit_at row 1 MAX_CCBS
  rounds ← limit_at row 2 MAX_ROUNDS
  stays ← limit_at row 3 MAX_STAYS
  events ← limit_at row 4 MAX_EVENTS
  _ ← unused_from row 5
  Ok (record { ccbs = ccbs; rounds = rounds; stays = stays; events = events })

-- a device's path, bus:target:lun
abbrev pub formed_path : Result CamPath ℕ → ℕ → Result CamPath ℕ
formed_path (Ok p) number = Ok p
formed_path (Err place) number = Err number

unfoldable pub path_at : Row → ℕ → Result CamPath ℕ
path_at row at = formed_path (path.reading (field_of row at)) (at + 1)

-- a driver, from 0 to 7
unfoldable pub driver_at : Row → Result ℕ ℕ
driver_at row = number_at row 1 7

-- a driver, a path and a number
unfoldable pub by_path_at : Row → Result (ℕ × CamPath × ℕ) ℕ
by_path_at row = do
  driver ← driver_at row
  at ← path_at row 2
  n ← number_at row 3 max_number
  _ ← unused_from row 4
  Ok (driver, at, n)

-- a driver and a number
unfoldable pub by_number_at : Row → Result (ℕ × ℕ) ℕ
by_number_at row = do
  driver ← driver_at row
  n ← number_at row 2 max_number
  _ ← unused_from row 3
  Ok (driver, n)

unfoldable pub submission_at : Row → Result ScriptRow ℕ
submission_at fields = do
  driver ← driver_at fields
  at ← path_at fields 2
  priority ← number_at fields 3 max_number
  retries ← number_at fields 4 max_number
  flags ← flags_at fields 5
  _ ← unused_from fields 6
  Ok (row.Submit driver at priority retries flags)

unfoldable pub adapter_freeze_at : Row → Result ScriptRow ℕ
adapter_freeze_at fields = do
  driver ← driver_at fields
  sim ← number_at fields 2 max_number
  count ← number_at fields 3 max_number
  _ ← unused_from fields 4
  Ok (row.FreezeSim driver sim count)

-- what a record with this word says
unfoldable pub script_row_at : ScriptWord → Row → Result ScriptRow ℕ
script_row_at word.Submit fields = submission_at fields
script_row_at word.Freeze fields = by_path_at fields >>= λ r. Ok (row.Freeze r.0 r.1 r.2)
script_row_at word.Release fields = by_path_at fields >>= λ r. Ok (row.Release r.0 r.1 r.2)
script_row_at word.FreezeSim fields = adapter_freeze_at fields
script_row_at word.ReleaseSim fields = by_number_at fields >>= λ r. Ok (row.ReleaseSim r.0 r.1)
script_row_at word.Adjust fields = by_path_at fields >>= λ r. Ok (row.Adjust r.0 r.1 r.2)
script_row_at word.Pause fields = by_number_at fields >>= λ r. Ok (row.Pause r.0 r.1)
script_row_at word.Answer fields = outcome_at fields >>= λ r. Ok (row.Answer r.0 r.1)
