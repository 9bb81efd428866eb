-- The first record that fails, and its fault.
use Rattle.std.proofs.Common.{ℕ, List, Bool, sym}
use Rattle.std.specs.Prelude.{Option, Some, None, Result, Ok, Err, ok_or, ⊤, IfErr}
use Rattle.record_text.specs.ConfigParsing.{lacking, lacks_adapters, pushed, row_fault, unless_fault, with_row}
use Rattle.record_text.specs.declared.config_parser.ConfigParser.{ConfigParser}
use Rattle.record_text.specs.declared.config_row.ConfigRow.{ConfigRow}
use Rattle.record_text.specs.declared.config_row.ConfigRow.TheVariants as row
use Rattle.cam_types.specs.declared.config_fault.ConfigFault.{ConfigFault}
use Rattle.recording_file.specs.Recorded.{Recorded, RequestFault}
use Rattle.recording_file.specs.Reading.{add_row, apply_parsed, parsed_cap, ended, in_config, in_record, parsed_name, placed, recorded_of, row_step, parsed_by, says, step, unless_illegal, whole, RecordingFault, RecordingParser, ParsedRow}
use Rattle.recording_file.specs.declared.recording_fault.RecordingFault.TheVariants as fault
use Rattle.recording_file.specs.declared.recording_parser.RecordingParser.TheVariants as parser
use Rattle.recording_file.specs.declared.parsed_row.ParsedRow.TheVariants as parsed
use Rattle.recording_file.specs.Words.{RecordingWord}
use Rattle.recording_file.specs.declared.word.RecordingWord.TheVariants as word
use Rattle.recording_file.specs.Counts.{counts_of}
use Rattle.recording_file.specs.Names.{is_next_name}
use Rattle.recording_file.specs.Caps.{is_next_cap}
use Rattle.record_text.specs.Text.{Row, records_in}
use Rattle.recording_file.specs.Rows.{header_at, span_at, rounds_at, named_at, text_at, capped_at, most_at, request_at}
use Rattle.record_text.specs.ConfigRows.{one_number, weight_at, adapter_at, device_at}
use Rattle.recording_file.specs.Recordings.{Explains}
use Rattle.record_text.specs.Steps.{◌>>=◌, taken}
use Rattle.recording_file.specs.Whole.{IsLongWhole}
use Rattle.record_text.proofs.FaultLaws.{FailsBy, Gives, bound, by_kind, by_test, by_word, first_fault, taken_fails}

-- a fault of the text, and not of the reader or of memory
abbrev pub IsOfText : RecordingFault → Type 0
IsOfText fault.TooLong = ⊥
IsOfText fault.ReadFailed = ⊥
IsOfText fault.OutOfMemory = ⊥
IsOfText _ = ⊤

-- a result that fails does so by a fault of the text
abbrev FailsByText : {X : Type 0} → Result X RecordingFault → Type 0
FailsByText r = FailsBy IsOfText r

by_config : (n : ℕ) (o : Option ConfigFault) (c : ConfigParser) → FailsByText (in_config n (unless_fault o c))
by_config n None c = tt
by_config n (Some f) c = tt

by_whole : (n : ℕ) (s : RecordingParser) → FailsByText (whole n s)
by_whole n (parser.Config start c) = by_test IsOfText (lacks_adapters c) (Err (fault.BadConfig n (lacking c))) _ tt tt
by_whole n _ = tt

row_more : (n : ℕ) (s : RecordingParser) (r : ConfigRow) → FailsByText (add_row n s r)
unfolding with_row
row_more n (parser.Config start c) r = bound IsOfText (in_config n (with_row c r)) _ (by_config n (row_fault c r) (pushed c r)) (λ d. tt)
row_more n _ r = tt

pub by_cause : (n : ℕ) (o : Option RequestFault) (s : RecordingParser) → FailsByText (unless_illegal n o s)
by_cause n None s = tt
by_cause n (Some r) s = tt

pub by_field : {X : Type 0} (n : ℕ) (r : Result X ℕ) → FailsByText (in_record n r)
by_field n (Ok x) = tt
by_field n (Err k) = tt

says_fails : {X : Type 0} (n : ℕ) (form : Result X ℕ) (say : X → ParsedRow) → FailsByText (says n form say)
says_fails n (Ok x) say = tt
says_fails n (Err k) say = tt

parsed_fails : (n : ℕ) (r : Recorded) (w : RecordingWord) (row : Row) → FailsByText (parsed_by n r w row)
unfolding parsed_by parsed_name parsed_cap
parsed_fails n r word.Unit row = says_fails n (span_at row) parsed.Unit
parsed_fails n r word.Rounds row = says_fails n (rounds_at row) parsed.Rounds
parsed_fails n r word.Weight row = says_fails n (weight_at row) parsed.Weight
parsed_fails n r word.Link row = says_fails n (one_number row) parsed.Link
parsed_fails n r word.Sim row = says_fails n (adapter_at row) parsed.Sim
parsed_fails n r word.Dev row = says_fails n (device_at row) parsed.Dev
parsed_fails n r word.Name row = bound IsOfText (in_record n (named_at (counts_of r.config) row)) _ (by_field n (named_at (counts_of r.config) row)) (λ k. by_test IsOfText (is_next_name r.names k.0 k.1) _ _ (says_fails n (text_at row) _) tt)
parsed_fails n r word.Cap row = bound IsOfText (in_record n (capped_at r.rounds (counts_of r.config) row)) _ (by_field n (capped_at r.rounds (counts_of r.config) row)) (λ k. by_test IsOfText (is_next_cap r.caps k.0 k.1) _ _ (says_fails n (most_at r.rounds k.1 row) _) tt)
parsed_fails n r word.Request row = says_fails n (request_at r.completions row) parsed.Request

add_fails : (n : ℕ) (s : RecordingParser) (x : ParsedRow) → FailsByText (apply_parsed n s x)
unfolding apply_parsed
add_fails n (parser.First v) (parsed.Unit u) = tt
add_fails n _ (parsed.Unit u) = tt
add_fails n (parser.First v) (parsed.Rounds k) = tt
add_fails n _ (parsed.Rounds k) = tt
add_fails n s (parsed.Weight w) = row_more n s (row.Weight w)
add_fails n s (parsed.Link k) = row_more n s (row.Link k)
add_fails n s (parsed.Sim a) = row_more n s (row.Sim a)
add_fails n s (parsed.Dev d) = row_more n s (row.Dev d)
add_fails n s (parsed.Name x) = bound IsOfText (whole n s) _ (by_whole n s) (λ r. tt)
add_fails n s (parsed.Cap x) = bound IsOfText (whole n s) _ (by_whole n s) (λ r. tt)
add_fails n s (parsed.Request q) = bound IsOfText (whole n s) _ (by_whole n s) (λ r. by_cause n _ _)

row_fails : (n : ℕ) (s : RecordingParser) (row : Row) → FailsByText (row_step n s row)
unfolding row_step
row_fails n s row = bound IsOfText (ok_or (placed s row) (fault.BadRecord n)) _ (by_word IsOfText (placed s row) (fault.BadRecord n) tt) (λ w. bound IsOfText (parsed_by n (recorded_of s) w row) _ (parsed_fails n (recorded_of s) w row) (add_fails n s))

step_fails : (n : ℕ) (s : RecordingParser) (row : Row) → FailsByText (step n s row)
unfolding step
step_fails n parser.Header row = bound IsOfText (ok_or (header_at row) fault.BadHeader) _ (by_word IsOfText (header_at row) fault.BadHeader tt) (λ v. tt)
step_fails n s row = row_fails n s row

end_fails : (s : RecordingParser) → FailsByText (ended s)
unfolding ended
end_fails (parser.Config start c) = by_whole _ (parser.Config start c)
end_fails _ = tt

pub reading_fails : (rows : List Row) → FailsByText (taken step 1 parser.Header rows >>= ended)
reading_fails rows = bound IsOfText (taken step 1 parser.Header rows) ended (taken_fails IsOfText step step_fails 1 parser.Header rows) end_fails

-- ---- what a reader answers, from what reading the whole text gives

pub faults_law : (before after : Option (List ℕ)) (failed : Bool) (text : List ℕ) (r : Result Recorded RecordingFault) → IsLongWhole before after text → Gives fault.OutOfMemory r (taken step 1 parser.Header (records_in text) >>= ended)
    → IfErr r (Explains before after failed)
faults_law before after failed text (Ok v) whole h = tt
faults_law before after failed text (Err fault.OutOfMemory) whole h = tt
faults_law before after failed text (Err fault.TooLong) whole h = absurd (by_kind IsOfText _ fault.TooLong (reading_fails (records_in text)) (sym (h (λ k. cc))))
faults_law before after failed text (Err fault.ReadFailed) whole h = absurd (by_kind IsOfText _ fault.ReadFailed (reading_fails (records_in text)) (sym (h (λ k. cc))))
faults_law before after failed text (Err e) whole h =
    record { text = text; whole = whole; fault = first_fault step ended parser.Header (records_in text) e (sym (h (λ k. cc))) }
