-- The records of a recording are read as that recording.
use Rattle.std.proofs.Common.{◌≡◌, ◌≢◌, ℕ, length, true, refl, ◌∙◌}
use Rattle.csv.specs.Records.{field_at}
use Rattle.recording_file.specs.Reading.{apply_parsed, placed, recorded_of, row_step, stands, step, RecordingParser, ParsedRow}
use Rattle.recording_file.specs.declared.recording_parser.RecordingParser.TheVariants as parser
use Rattle.recording_file.specs.declared.parsed_row.ParsedRow.TheVariants as parsed
use Rattle.record_text.specs.Fields.{field_of}
use Rattle.recording_file.specs.Records.{row_of_parsed, word_for, FitsParsed}
use Rattle.recording_file.specs.Words.{spelled}
use Rattle.recording_file.proofs.FieldLaws.{word_again}
use Rattle.recording_file.proofs.ParsedAgain.{SmallFor, parsed_again}
use Rattle.recording_file.proofs.ParserLemmas.{step_after_header}

-- ---- a record is placed, and read by its word

spelled_row : (x : ParsedRow) → (length (row_of_parsed x) ≡ 8) × (field_of (row_of_parsed x) 0 ≡ spelled (word_for x))
unfolding field_at
spelled_row (parsed.Unit u) = (refl, refl)
spelled_row _ = (refl, refl)

pub parsed_step : (n : ℕ) (s : RecordingParser) (x : ParsedRow) → s ≢ parser.Header → SmallFor (recorded_of s) x → stands s (word_for x) ≡ true → FitsParsed (recorded_of s) x → step n s (row_of_parsed x) ≡ apply_parsed n s x
unfolding row_step placed
parsed_step n s x headed small place fits =
    let r = spelled_row x in
    step_after_header n s (row_of_parsed x) headed ∙ rw (r.0, r.1, word_again (word_for x), place, parsed_again n (recorded_of s) x small fits) refl
