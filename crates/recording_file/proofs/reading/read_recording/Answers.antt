use Rattle.std.proofs.Common.{◌<◌, ◌∙◌, ap, arith, List, ℕ, length, Option, Some, None, IfSome, Err}
use Rattle.recording_file.specs.Reading.{reading}
use Rattle.recording_file.specs.Recorded.{Recorded}
use Rattle.recording_file.specs.Recordings.{IsRecordingText}
use Rattle.recording_file.specs.Whole.{max_bytes}
use Rattle.cam_types.specs.declared.whole.WholeFault.{WholeFault}
use Rattle.recording_file.proofs.FaultLaws.{faults_law}
use Rattle.record_text.proofs.FaultLaws.{found_law, only_law}
use Rattle.recording_file.proofs.LongLemmas.{most_within, too_long}
use Rattle.recording_file.proofs.ReadLaws.{was_recording}
use Rattle.recording_file.proofs.WholeLaws.{reading_again}
use Rattle.recording_file.proofs.reading.read_recording.Goals as goal

pub parse_recording-requires : goal.parse_recording-requires
parse_recording-requires g c =
    let within = most_within c.in-Ok.text.items in
    let bound = c.in-Ok.ensures.whole.bounded in
    rw c.deref.ensures.value (omega arith)

pub returns-in-Ok-clause-found : goal.returns-in-Ok-clause-found
returns-in-Ok-clause-found g c = found_law _ _ _ _ (rw c.deref.ensures.value at c.parse_recording.ensures) (was_recording _ _ _ c.in-Ok.ensures.whole)

pub returns-in-Ok-clause-only : goal.returns-in-Ok-clause-only
returns-in-Ok-clause-only g c = λ r h.
    only_law _ _ (λ text. IsRecordingText text r) _ _ _ _ _ r c.in-Ok.ensures.whole.read c.in-Ok.ensures.whole.ended (rw c.deref.ensures.value at c.parse_recording.ensures) (λ is. ap reading is.spelled ∙ reading_again is.table r h is.held)

-- no recording's text is too long
none_long : (P : List ℕ → Type 0) (r : Recorded) (before : Option (List ℕ)) → IfSome before (λ all. max_bytes all < length all) → IfSome before (λ all. IsRecordingText all r → P all)
none_long P r None h = tt
none_long P r (Some all) h = λ is. absurd (let bound = is.bounded in omega arith)

pub returns-in-Err-TooLong-clause-only : goal.returns-in-Err-TooLong-clause-only
returns-in-Err-TooLong-clause-only g c = λ r h.
    let long = c.in-Err-TooLong.ensures.too_long (ap (λ (x : WholeFault). Err x) c.in-Err-TooLong.field-0-is) in
    none_long _ r _ (too_long _ _ long)

pub returns-in-Ok-clause-faults : goal.returns-in-Ok-clause-faults
unfolding reading
returns-in-Ok-clause-faults g c = faults_law _ _ _ _ _ c.in-Ok.ensures.whole (rw c.deref.ensures.value at c.parse_recording.ensures)
