-- Texts of recordings, and what a reader of recordings answers.
use Rattle.std.specs.Prelude.{◌≡◌, ℕ, ◌≤◌, ◌||◌, true, ⊤, List, length, Option, Bool}
use Rattle.cam_types.specs.Weights.{are_standard}
use Rattle.recording_file.specs.Reading.{ended, step, RecordingFault}
use Rattle.recording_file.specs.declared.recording_fault.RecordingFault.TheVariants as fault
use Rattle.recording_file.specs.declared.recording_parser.RecordingParser.TheVariants as parser
use Rattle.record_text.specs.Text.{records_in}
use Rattle.recording_file.specs.Recorded.{Recorded, IsRecording}
use Rattle.recording_file.specs.Records.{records_of}
use Rattle.recording_file.specs.Whole.{max_bytes, IsLongWhole, IsTooLong}
use Rattle.record_text.specs.Faults.{IsFirstFault}

-- the text's records are those of the recording; where its weights are the standard ones, their rows may be left out
pub record IsRecordingText (text : List ℕ) (r : Recorded) : Type 0 where
  pub bounded : length text ≤ max_bytes text
  pub table : Bool
  pub held : (table || are_standard r.config.weights) ≡ true
  pub spelled : records_in text ≡ records_of table r

-- what was read to its end was the recording's text
pub record WasRecording (before after : Option (List ℕ)) (r : Recorded) : Type 0 where
  pub text : List ℕ
  pub whole : IsLongWhole before after text
  pub spelled : IsRecordingText text r
  pub recording : IsRecording r

-- what was read to its end has this fault first
pub record WasFaulty (before after : Option (List ℕ)) (e : RecordingFault) : Type 0 where
  pub text : List ℕ
  pub whole : IsLongWhole before after text
  pub fault : IsFirstFault step ended parser.Header (records_in text) e

-- why no recording was read, where the reader's note says at last whether a call failed
abbrev pub Explains : Option (List ℕ) → Option (List ℕ) → Bool → RecordingFault → Type 0
Explains before after failed fault.TooLong = IsTooLong before after
Explains before after failed fault.ReadFailed = failed ≡ true
Explains before after failed fault.OutOfMemory = ⊤
Explains before after failed e = WasFaulty before after e
