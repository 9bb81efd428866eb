-- A record of more than eight fields is refused, whatever they are.
use Rattle.std.proofs.Common.{◌≡◌, ◌<◌, ℕ, Err, length, refl}
use Rattle.record_text.specs.Front.{RefusesLong, max_fields}
use Rattle.record_text.proofs.FrontLemmas.{not_eight}
use Rattle.record_text.specs.Text.{Row}
use Rattle.record_text.specs.Header.{is_header}
use Rattle.recording_file.specs.Rows.{header_at}
use Rattle.recording_file.specs.Reading.{BadHeader, BadRecord, RecordingFault, RecordingParser, placed, row_step, step}
use Rattle.recording_file.specs.declared.recording_parser.RecordingParser.TheVariants as parser

fault : ℕ → RecordingParser → RecordingFault
fault n parser.Header = BadHeader
fault n s = BadRecord n

long_row : (n : ℕ) (s : RecordingParser) (row : Row) → max_fields < length row → row_step n s row ≡ Err (BadRecord n)
unfolding row_step placed
long_row n s row many = rw (not_eight row many) refl

long_step : (n : ℕ) (s : RecordingParser) (row : Row) → max_fields < length row → step n s row ≡ Err (fault n s)
unfolding step header_at is_header fault
long_step n parser.Header row many = rw (not_eight row many) refl
long_step n (parser.First v) row many = long_row n (parser.First v) row many
long_step n (parser.Timed v u) row many = long_row n (parser.Timed v u) row many
long_step n (parser.Config a c) row many = long_row n (parser.Config a c) row many
long_step n (parser.Book r) row many = long_row n (parser.Book r) row many

pub refuses_long : RefusesLong step
refuses_long = (fault, long_step)
