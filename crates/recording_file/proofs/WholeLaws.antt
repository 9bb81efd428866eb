-- The records of a whole recording are read as that recording.
use Rattle.std.proofs.Common.{◌≡◌, ◌++◌, map, Bool, true, false, refl, sym, ap, ◌∙◌, Result, Ok, ◌||◌}
use Rattle.csv.specs.Records.{field_at}
use Rattle.cam_types.specs.Weights.{are_standard}
use Rattle.recording_file.specs.Reading.{reading, step, RecordingFault}
use Rattle.recording_file.specs.declared.recording_parser.RecordingParser.TheVariants as parser
use Rattle.record_text.specs.Header.{has_letters, is_header, header_row}
use Rattle.recording_file.specs.Recorded.{Recorded, IsRecording}
use Rattle.recording_file.specs.Rows.{header_at}
use Rattle.recording_file.specs.Records.{cap_row, header, name_row, records_of, request_row}
use Rattle.record_text.specs.Steps.{taken}
use Rattle.recording_file.proofs.HeadLaws.{base_of, taken_config, taken_start}
use Rattle.recording_file.proofs.BookLaws.{at_book, book_at, is_base, taken_book}

-- ---- the head

header_first : (v : Bool) → step 1 parser.Header (header v) ≡ Ok (parser.First v)
unfolding step header_at is_header has_letters header_row field_at
header_first false = refl
header_first true = refl

taken_all : (table : Bool) (r : Recorded) → IsRecording r → (table || are_standard r.config.weights) ≡ true → taken step 1 parser.Header (records_of table r) ≡ Ok (at_book (base_of table r) r.names r.caps r.requests)
unfolding records_of
taken_all table r h held =
    let head = h.kept.head in
    let final = at_book (base_of table r) r.names r.caps r.requests in
    rw (header_first r.completions, head.lanes) (rw head.lanes at (taken_start r.completions r.unit r.rounds _ final head.unit h.unit head.some head.rounds
    (taken_config table r h held (map name_row r.names ++ (map cap_row r.caps ++ map request_row r.requests)) final (taken_book r (base_of table r) (is_base table r h) h)) 2))

pub reading_again : (table : Bool) (r : Recorded) → IsRecording r → (table || are_standard r.config.weights) ≡ true → reading (records_of table r) ≡ Ok r
unfolding reading
reading_again table r h held =
    let at = book_at r (base_of table r) (is_base table r h) r.names r.caps r.requests in
    rw (taken_all table r h held) at.ends

-- two recordings have no list of records in common
pub one_recorded : (v w : Bool) (one other : Recorded) → IsRecording one → IsRecording other → (v || are_standard one.config.weights) ≡ true → (w || are_standard other.config.weights) ≡ true → records_of v one ≡ records_of w other → one ≡ other
one_recorded v w one other h k in_v in_w e =
    let same : ◌≡◌ {A = Result Recorded RecordingFault} (Ok one) (Ok other) = sym (reading_again v one h in_v) ∙ ap reading e ∙ reading_again w other k in_w in
    cc
