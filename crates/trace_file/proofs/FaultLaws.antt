-- The first record that fails, and its fault.
use Rattle.std.proofs.Common.{◌≡◌, ℕ, List, [], Bool, refl, sym}
use Rattle.std.specs.Prelude.{Option, Some, None, Result, Ok, Err, ok_or, ⊤, IfErr}
use Rattle.cam_types.specs.Whole.{IsWhole}
use Rattle.trace_file.specs.Histories.{ConfigFault, Event, Past, Refusal}
use Rattle.record_text.specs.ConfigParsing as parsing
use Rattle.record_text.specs.ConfigParsing.{lacking, lacks_adapters, pushed, row_fault, with_row}
use Rattle.record_text.specs.declared.config_parser.ConfigParser.{ConfigParser}
use Rattle.record_text.specs.declared.config_row.ConfigRow.{ConfigRow}
use Rattle.record_text.specs.declared.config_row.ConfigRow.TheVariants as row
use Rattle.trace_file.specs.Reading.{add_event, add_row, configured, ended, in_config, in_record, placed, reading, row_step, step, take_word, unless_refused, version_of, TraceFault, TraceParser}
use Rattle.record_text.specs.Header.{is_header}
use Rattle.trace_file.specs.declared.trace_fault.TraceFault.TheVariants as fault
use Rattle.trace_file.specs.declared.trace_parser.TraceParser.TheVariants as parser
use Rattle.trace_file.specs.Rows.{adapter_in, event_at, TraceWord}
use Rattle.record_text.specs.ConfigRows.{device_at, one_number, weight_at}
use Rattle.trace_file.specs.declared.word.TraceWord.TheVariants as word
use Rattle.record_text.specs.Text.{Row, records_in}
use Rattle.trace_file.specs.Versions.{name_of}
use Rattle.trace_file.specs.declared.version.Version.TheVariants as version
use Rattle.trace_file.specs.Sound.{IsSound}
use Rattle.record_text.specs.Steps.{◌>>=◌, taken}
use Rattle.trace_file.specs.Trace.{WasTrace, ExplainsBy}
use Rattle.trace_file.proofs.ParserLaws.{ReadsBy, ended_reads, step_reads}
use Rattle.record_text.proofs.StepLemmas.{taken_keeps, on_ok}
use Rattle.record_text.proofs.FaultLaws.{FailsBy, Gives, bound, by_kind, by_test, by_word, first_fault, taken_fails}

-- a fault of the text, and not of the reader or of memory
abbrev pub IsOfText : TraceFault → Type 0
IsOfText fault.TooLong = ⊥
IsOfText fault.ReadFailed = ⊥
IsOfText fault.OutOfMemory = ⊥
IsOfText _ = ⊤

-- a result that fails does so by a fault of the text
abbrev pub FailsByText : {X : Type 0} → Result X TraceFault → Type 0
FailsByText r = FailsBy IsOfText r

by_config : (n : ℕ) (o : Option ConfigFault) (c : ConfigParser) → FailsByText (in_config n (parsing.unless_fault o c))
by_config n None c = tt
by_config n (Some f) c = tt

pub by_configured : (n : ℕ) (c : ConfigParser) → FailsByText (configured n c)
by_configured n c = by_test IsOfText (lacks_adapters c) (Err (fault.BadConfig n (lacking c))) (Ok c.partial) tt tt

pub by_refusal : (n : ℕ) (o : Option Refusal) (s : TraceParser) → FailsByText (unless_refused n o s)
by_refusal n None s = tt
by_refusal n (Some r) s = tt

pub by_field : {X : Type 0} (n : ℕ) (r : Result X ℕ) → FailsByText (in_record n r)
by_field n (Ok x) = tt
by_field n (Err k) = tt

add_fails : (n : ℕ) (s : TraceParser) (r : ConfigRow) → FailsByText (add_row n s r)
unfolding with_row
add_fails n (parser.Config v c) r = bound IsOfText (in_config n (with_row c r)) _ (by_config n (row_fault c r) (pushed c r)) (λ d. tt)
add_fails n _ r = tt

event_fails : (n : ℕ) (s : TraceParser) (e : Event) → FailsByText (add_event n s e)
event_fails n parser.Header e = tt
event_fails n (parser.Config v c) e = bound IsOfText (configured n c) _ (by_configured n c) (λ t. by_refusal n _ _)
event_fails n (parser.Events p) e = by_refusal n _ _

word_fails : (n : ℕ) (s : TraceParser) (w : TraceWord) (fields : Row) → FailsByText (take_word n s w fields)
unfolding take_word
word_fails n s word.Weight fields = bound IsOfText (in_record n (weight_at fields)) _ (by_field n (weight_at fields)) (λ x. add_fails n s (row.Weight x))
word_fails n s word.Link fields = bound IsOfText (in_record n (one_number fields)) _ (by_field n (one_number fields)) (λ x. add_fails n s (row.Link x))
word_fails n s word.Sim fields = bound IsOfText (in_record n (adapter_in (version_of s) fields)) _ (by_field n (adapter_in (version_of s) fields)) (λ x. add_fails n s (row.Sim x))
word_fails n s word.Dev fields = bound IsOfText (in_record n (device_at fields)) _ (by_field n (device_at fields)) (λ x. add_fails n s (row.Dev x))
word_fails n s word.Lane fields = bound IsOfText (in_record n (one_number fields)) _ (by_field n (one_number fields)) (λ x. add_fails n s (row.Lane x))
word_fails n s w fields = bound IsOfText (in_record n (event_at w fields)) _ (by_field n (event_at w fields)) (λ e. event_fails n s e)

pub behind_fails : (n : ℕ) (s : TraceParser) (row : Row) → FailsByText (row_step n s row)
unfolding row_step
behind_fails n s row = bound IsOfText (ok_or (placed s row) (fault.BadRecord n)) _ (by_word IsOfText (placed s row) (fault.BadRecord n) tt) (λ w. word_fails n s w row)

step_fails : (n : ℕ) (s : TraceParser) (row : Row) → FailsByText (step n s row)
unfolding step
step_fails n parser.Header row = by_test IsOfText (is_header (name_of version.One) row) (Ok _) _ tt (by_test IsOfText (is_header (name_of version.Two) row) (Ok _) _ tt (by_test IsOfText (is_header (name_of version.Three) row) (Ok _) (Err fault.BadHeader) tt tt))
step_fails n s row = behind_fails n s row

end_fails : (s : TraceParser) → FailsByText (ended s)
unfolding ended
end_fails parser.Header = tt
end_fails (parser.Config v c) = bound IsOfText (configured _ c) _ (by_configured _ c) (λ t. tt)
end_fails (parser.Events p) = tt

pub reading_fails : (rows : List Row) → FailsByText (taken step 1 parser.Header rows >>= ended)
reading_fails rows = bound IsOfText (taken step 1 parser.Header rows) ended (taken_fails IsOfText step step_fails 1 parser.Header rows) end_fails

-- ---- what a reader answers, from what reading the whole text gives

pub faults_law : {S V : Type 0} (next : ℕ → S → Row → Result S TraceFault) (end : S → Result V TraceFault) (first : S) (before after : Option (List ℕ)) (failed : Bool) (text : List ℕ) (r : Result V TraceFault)
    → ((rows : List Row) → FailsByText (taken next 1 first rows >>= end)) → IsWhole before after text → Gives fault.OutOfMemory r (taken next 1 first (records_in text) >>= end) → IfErr r (ExplainsBy next end first before after failed)
faults_law next end first before after failed text (Ok v) fails whole h = tt
faults_law next end first before after failed text (Err fault.OutOfMemory) fails whole h = tt
faults_law next end first before after failed text (Err fault.TooLong) fails whole h = absurd (by_kind IsOfText _ fault.TooLong (fails (records_in text)) (sym (h (λ k. cc))))
faults_law next end first before after failed text (Err fault.ReadFailed) fails whole h = absurd (by_kind IsOfText _ fault.ReadFailed (fails (records_in text)) (sym (h (λ k. cc))))
faults_law next end first before after failed text (Err e) fails whole h =
    record { text = text; whole = whole; fault = first_fault next end first (records_in text) e (sym (h (λ k. cc))) }

-- ---- what was read is a trace

pub was_trace : (before after : Option (List ℕ)) (text : List ℕ) → IsWhole before after text → (past : Past) → reading (records_in text) ≡ Ok past → WasTrace before after past
unfolding reading IsSound
was_trace before after text whole past e =
    on_ok (taken step 1 parser.Header (records_in text)) ended past e (λ t et r.
    let start : ReadsBy parser.Header [] = record { version = version.One; reads = record { spelled = refl; held = tt; sound = tt; targets = tt; events = tt } } in
    let h = taken_keeps step ReadsBy step_reads 1 parser.Header t [] (records_in text) start et in
    let k = ended_reads h.version t past (records_in text) h.reads r in
    record { text = text; whole = whole; trace = record { bounded = whole.bounded; version = h.version; held = k.1; spelled = k.0 }; history = k.2 })
