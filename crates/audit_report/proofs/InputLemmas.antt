-- what a text is read as
use Rattle.std.proofs.Common.{◌≡◌, ◌≤◌, ◌<◌, ℕ, Bool, true, false, cond, List, [], ◌++◌, length, refl, sym, ap, subst, ◌∙◌, arith, append-nil, nat_le, Option, Some, None, Result, Ok, Err, IfOk, IfErr, IfSome, bytes_eq, codes, ◌∷◌, ◌&&◌, ◌==◌, rules, tests}
use Rattle.std.proofs.lemmas.Bool.{leb-true, le-leb, lt-leb, and_parts}
use Rattle.std.proofs.lemmas.Slice.Eq.{bytes_eq-Decides}
use Rattle.audit_report.specs.Words.{MAX_BYTES, Past, Explains, IsLongWhole}
use Rattle.audit_report.specs.Inputs.{Input, IsInput, IsTextOf, IsFaultOf, WasRead, WhyNotRead, WhyNoNetOf, WhyNoNet, IsFailure, IsReadOrFailed, unsent_of}
use Rattle.audit_report.specs.Reading.{AsRead, as_either, as_trace, parsed, parsed_unheaded}
use Rattle.audit_report.specs.declared.input.Input.TheVariants as input
use Rattle.audit_report.specs.declared.audit_fault.AuditFault.{AuditFault}
use Rattle.audit_report.specs.declared.audit_fault.AuditFault.TheVariants as fault
use Rattle.cam_types.proofs.LeastLemmas.{find_passes}
use Rattle.recording_file.specs.Rows.{header_at}
use Rattle.recording_file.specs.Words.{name_text}
use Rattle.record_text.specs.Header.{has_letters, is_header}
use Rattle.record_text.specs.Fields.{field_of}
use Rattle.record_text.proofs.FaultLaws.{Gives, first_fault}
use Rattle.recording_file.specs.Recorded.{Recorded}
use Rattle.recording_file.specs.declared.limits.TheConstants.{MAX_RECORDING_BYTES}
use Rattle.recording_file.specs.Reading as recordings
use Rattle.recording_file.specs.Recordings as recorded
use Rattle.record_text.specs.Text.{Row, records_in}
use Rattle.recording_file.specs.Whole.{begins_recording, max_bytes, IsTooLong}
use Rattle.recording_file.specs.declared.recording_fault.RecordingFault.{RecordingFault}
use Rattle.recording_file.specs.declared.recording_fault.RecordingFault.TheVariants as recording_fault
use Rattle.recording_file.proofs.LongLemmas.{too_long}
use Rattle.recording_file.proofs.ReadLaws.{was_recording}
use Rattle.recording_file.proofs.WholeLaws as recording_again
use Rattle.trace_file.specs.Reading as traces
use Rattle.trace_file.specs.declared.trace_fault.TraceFault.{TraceFault}
use Rattle.trace_file.specs.declared.trace_fault.TraceFault.TheVariants as trace_fault
use Rattle.trace_file.proofs.FaultLaws as trace_laws
use Rattle.trace_file.proofs.WholeLaws as trace_again

-- ---- how long a text may be

pub most_least : (text : List ℕ) → MAX_BYTES ≤ max_bytes text
unfolding max_bytes
most_least text = by (begins_recording text)
  where
    by : (b : Bool) → MAX_BYTES ≤ cond b MAX_RECORDING_BYTES MAX_BYTES
    by true = omega arith
    by false = omega arith

-- ---- what a text says

record SaysTrace (text : List ℕ) (past : Past) : Type 0 where
  header : recordings.reading (records_in text) ≡ Err recording_fault.BadHeader
  bound : length text ≤ MAX_BYTES
  reading : traces.reading (records_in text) ≡ Ok past

unheaded_trace : (text : List ℕ) (past : Past) → recordings.reading (records_in text) ≡ Err recording_fault.BadHeader → parsed_unheaded text ≡ Ok (input.Trace past) → SaysTrace text past
unfolding parsed_unheaded
unheaded_trace text past bare e = by (nat_le (length text) MAX_BYTES) (traces.reading (records_in text)) refl refl e
  where
    by : (b : Bool) (r : Result Past TraceFault) → nat_le (length text) MAX_BYTES ≡ b → traces.reading (records_in text) ≡ r → cond b (as_trace r) (Err (fault.Recording recording_fault.BadHeader)) ≡ Ok (input.Trace past) → SaysTrace text past
    by true (Ok read) is was k = let same : read ≡ past = cc in record { header = bare; bound = leb-true (length text) MAX_BYTES is; reading = was ∙ ap (λ (p : Past). Ok p) same }
    by true (Err f) is was k = absurd cc
    by false r is was k = absurd cc

unheaded_recording : (text : List ℕ) (r : Recorded) → parsed_unheaded text ≡ Ok (input.Recording r) → ⊥
unfolding parsed_unheaded
unheaded_recording text r e = by (nat_le (length text) MAX_BYTES) (traces.reading (records_in text)) e
  where
    by : (b : Bool) (read : Result Past TraceFault) → cond b (as_trace read) (Err (fault.Recording recording_fault.BadHeader)) ≡ Ok (input.Recording r) → ⊥
    by true (Ok past) k = absurd cc
    by true (Err f) k = absurd cc
    by false read k = absurd cc

says_trace : (text : List ℕ) (past : Past) → parsed text ≡ Ok (input.Trace past) → SaysTrace text past
unfolding parsed
says_trace text past e = by (recordings.reading (records_in text)) refl e
  where
    by : (r : Result Recorded RecordingFault) → recordings.reading (records_in text) ≡ r → as_either text r ≡ Ok (input.Trace past) → SaysTrace text past
    by (Ok r) is k = absurd cc
    by (Err recording_fault.BadHeader) is k = unheaded_trace text past is k
    by (Err f) is k = absurd cc

says_recording : (text : List ℕ) (r : Recorded) → parsed text ≡ Ok (input.Recording r) → recordings.reading (records_in text) ≡ Ok r
unfolding parsed
says_recording text r e = by (recordings.reading (records_in text)) refl e
  where
    by : (read : Result Recorded RecordingFault) → recordings.reading (records_in text) ≡ read → as_either text read ≡ Ok (input.Recording r) → recordings.reading (records_in text) ≡ Ok r
    by (Ok read) is k = let same : read ≡ r = cc in is ∙ ap (λ (x : Recorded). Ok x) same
    by (Err recording_fault.BadHeader) is k = absurd (unheaded_recording text r k)
    by (Err f) is k = absurd cc

-- what was read is what the text says
was_read : (before after : Option (List ℕ)) (text : List ℕ) → IsLongWhole before after text → (i : Input) → parsed text ≡ Ok i → WasRead before after i
was_read before after text whole (input.Recording r) e =
    let w = was_recording before after text whole r (says_recording text r e) in
    record { text = w.text; whole = w.whole; spelled = w.spelled; kept = w.recording }
was_read before after text whole (input.Trace past) e =
    let says = says_trace text past e in
    let w = trace_laws.was_trace before after text (record { bounded = says.bound; read = whole.read; ended = whole.ended }) past says.reading in
    record { text = w.text; whole = record { bounded = omega (arith, w.whole.bounded, most_least w.text); read = w.whole.read; ended = w.whole.ended }; spelled = w.trace; kept = w.history }

-- ---- a trace and a recording are read as what they are

same_bytes : (xs ys : List ℕ) → bytes_eq xs ys ≡ true → xs ≡ ys
same_bytes xs ys h = search (rules, tests, bytes_eq-Decides)

named_recording : (row : Row) (v : Bool) → is_header (name_text v) row ≡ true → field_of row 0 ≡ name_text v
unfolding is_header
named_recording row v h =
    let named = and_parts ((length row == 8) && bytes_eq (field_of row 0) (name_text v)) (has_letters row) h in
    same_bytes _ _ (and_parts (length row == 8) (bytes_eq (field_of row 0) (name_text v)) named.0).1

other_header : (row : Row) (v : Bool) (name : List ℕ) → field_of row 0 ≡ name_text v → bytes_eq (name_text v) name ≡ false → is_header name row ≡ false
unfolding is_header
other_header row v name is other = by (length row == 8)
  where
    by : (b : Bool) → ((b && bytes_eq (field_of row 0) name) && has_letters row) ≡ false
    by true = rw (is, other) refl
    by false = refl

-- a recording's header names its version
header_named : (row : Row) (v : Bool) → header_at row ≡ Some v → field_of row 0 ≡ name_text v
unfolding header_at
header_named row v e = named_recording row v (find_passes (λ (b : Bool). is_header (name_text b) row) (false ∷ true ∷ []) v e)

-- a recording's name is that of no trace
no_trace : (v : Bool) → (bytes_eq (name_text v) (codes "camtrace1") ≡ false) × (bytes_eq (name_text v) (codes "camtrace2") ≡ false) × (bytes_eq (name_text v) (codes "camtrace3") ≡ false)
no_trace true = (refl, refl, refl)
no_trace false = (refl, refl, refl)

-- a trace begins with no recording's header
trace_bare : (rows : List Row) (past : Past) → traces.reading rows ≡ Ok past → recordings.reading rows ≡ Err recording_fault.BadHeader
unfolding traces.reading traces.step recordings.reading recordings.step recordings.ended
trace_bare [] past e = refl
trace_bare (row ∷ rest) past e = by (header_at row) refl
  where
    by : (o : Option Bool) → header_at row ≡ o → recordings.reading (row ∷ rest) ≡ Err recording_fault.BadHeader
    by (Some v) is =
        let named = header_named row v is in
        let others = no_trace v in
        let one = other_header row v (codes "camtrace1") named others.0 in
        let two = other_header row v (codes "camtrace2") named others.1 in
        let three = other_header row v (codes "camtrace3") named others.2 in
        let none : traces.reading (row ∷ rest) ≡ Err trace_fault.BadHeader = rw (one, two, three) refl in
        absurd (let both : Ok past ≡ Err trace_fault.BadHeader = sym e ∙ none in cc)
    by None is = rw is refl

text_parsed : (text : List ℕ) (i : Input) → IsInput i → IsTextOf text i → parsed text ≡ Ok i
unfolding parsed parsed_unheaded
text_parsed text (input.Recording r) kept is = ap (as_either text) (ap recordings.reading is.spelled ∙ recording_again.reading_again is.table r kept is.held)
text_parsed text (input.Trace past) kept is =
    let read : traces.reading (records_in text) ≡ Ok past = ap traces.reading is.spelled ∙ trace_again.reading_again is.version past kept is.held in
    let bare = trace_bare (records_in text) past read in
    let short : nat_le (length text) MAX_BYTES ≡ true = grind (arith, is.bounded) in
    ap (as_either text) bare ∙ ap (λ b. cond b (as_trace (traces.reading (records_in text))) (Err (fault.Recording recording_fault.BadHeader))) short ∙ ap as_trace read

-- ---- faults

-- a trace's fault is none of its length, of a read or of memory
of_text : (r : Result Past TraceFault) (e : TraceFault) → trace_laws.FailsByText r → r ≡ Err e → trace_laws.IsOfText e
of_text r e h is = rw is at h

record SaysFault (text : List ℕ) (e : AuditFault) : Type 0 where
  first : IsFaultOf text e
  none : (f : TraceFault) → e ≡ fault.Trace f → trace_laws.IsOfText f

trace_fault_of : (text : List ℕ) (e : TraceFault) → length text ≤ MAX_BYTES → traces.reading (records_in text) ≡ Err e → Explains (Some text) (Some []) false e
unfolding traces.reading
trace_fault_of text e short is =
    trace_laws.faults_law traces.step traces.ended _ (Some text) (Some []) false text (Err e) trace_laws.reading_fails (record { bounded = short; read = sym (append-nil text); ended = refl }) (λ other. sym is)

recording_fault_of : (text : List ℕ) (e : RecordingFault) → length text ≤ max_bytes text → recordings.reading (records_in text) ≡ Err e → recorded.WasFaulty (Some text) (Some []) e
unfolding recordings.reading
recording_fault_of text e bound is =
    record { text = text; whole = record { bounded = bound; read = sym (append-nil text); ended = refl }; fault = first_fault recordings.step recordings.ended _ (records_in text) e is }

fault_unheaded : (text : List ℕ) (e : AuditFault) → length text ≤ max_bytes text → recordings.reading (records_in text) ≡ Err recording_fault.BadHeader → parsed_unheaded text ≡ Err e → SaysFault text e
unfolding parsed_unheaded traces.reading
fault_unheaded text e bound bare h = by (nat_le (length text) MAX_BYTES) (traces.reading (records_in text)) refl refl h
  where
    by : (b : Bool) (r : Result Past TraceFault) → nat_le (length text) MAX_BYTES ≡ b → traces.reading (records_in text) ≡ r → cond b (as_trace r) (Err (fault.Recording recording_fault.BadHeader)) ≡ Err e → SaysFault text e
    by true (Ok past) short was k = absurd cc
    by true (Err f) short was k =
        let same : fault.Trace f ≡ e = cc in
        subst (SaysFault text) same (record {
          first = (bare, trace_fault_of text f (leb-true (length text) MAX_BYTES short) was);
          none = λ g is. let other : f ≡ g = cc in subst trace_laws.IsOfText other (of_text _ f (trace_laws.reading_fails (records_in text)) was);
        })
    by false r short was k =
        let same : fault.Recording recording_fault.BadHeader ≡ e = cc in
        subst (SaysFault text) same (record { first = recording_fault_of text recording_fault.BadHeader bound bare; none = λ g is. absurd cc })

fault_of : (text : List ℕ) (e : AuditFault) → length text ≤ max_bytes text → parsed text ≡ Err e → SaysFault text e
unfolding parsed
fault_of text e bound h = by (recordings.reading (records_in text)) refl h
  where
    by : (r : Result Recorded RecordingFault) → recordings.reading (records_in text) ≡ r → as_either text r ≡ Err e → SaysFault text e
    by (Ok r) is k = absurd cc
    by (Err recording_fault.BadHeader) is k = fault_unheaded text e bound is k
    by (Err f) is k =
        let same : fault.Recording f ≡ e = cc in
        subst (SaysFault text) same (record { first = recording_fault_of text f bound is; none = λ g was. absurd cc })

not_read : (before after : Option (List ℕ)) (failed : Bool) (text : List ℕ) → IsLongWhole before after text → (e : AuditFault) → SaysFault text e → WhyNotRead before after failed e
not_read before after failed text whole (fault.Trace trace_fault.TooLong) h = absurd (h.none trace_fault.TooLong refl)
not_read before after failed text whole (fault.Trace trace_fault.ReadFailed) h = absurd (h.none trace_fault.ReadFailed refl)
not_read before after failed text whole (fault.Trace trace_fault.OutOfMemory) h = tt
not_read before after failed text whole (fault.Recording recording_fault.OutOfMemory) h = tt
not_read before after failed text whole e h = record { text = text; whole = whole; first = h.first }

-- ---- what a reader of either answers

pub found_read : (before after : Option (List ℕ)) (text : List ℕ) (r : Result Input AuditFault) → IsLongWhole before after text → AsRead r (parsed text) → IfOk r (WasRead before after)
found_read before after text (Ok i) whole h = was_read before after text whole i (sym h)
found_read before after text (Err e) whole h = tt

pub faults_read : (before after : Option (List ℕ)) (failed : Bool) (text : List ℕ) (r : Result Input AuditFault) → IsLongWhole before after text → AsRead r (parsed text) → IfErr r (WhyNotRead before after failed)
faults_read before after failed text (Ok i) whole h = tt
faults_read before after failed text (Err (fault.Trace trace_fault.OutOfMemory)) whole h = tt
faults_read before after failed text (Err (fault.Recording recording_fault.OutOfMemory)) whole h = tt
faults_read before after failed text (Err e) whole h = not_read before after failed text whole e (fault_of text e whole.bounded (sym h))

answered : (i : Input) (r : Result Input AuditFault) → AsRead r (Ok i) → IsReadOrFailed i r
answered i (Ok read) h = let same : read ≡ i = cc in same
answered i (Err (fault.Trace trace_fault.OutOfMemory)) h = tt
answered i (Err (fault.Recording recording_fault.OutOfMemory)) h = tt
answered i (Err e) h = absurd cc

pub only_read : (before after : Option (List ℕ)) (text : List ℕ) (i : Input) (r : Result Input AuditFault) → IsInput i → IsLongWhole before after text → AsRead r (parsed text) → IfSome before (λ all. IsTextOf all i → IsReadOrFailed i r)
only_read None after text i r kept whole h = tt
only_read (Some all) None text i r kept whole h = absurd whole.read
only_read (Some all) (Some left) text i r kept whole h = λ is.
    let same : all ≡ text = whole.read ∙ ap (λ (l : List ℕ). text ++ l) whole.ended ∙ append-nil text in
    answered i r (subst (AsRead r) (text_parsed text i kept (subst (λ t. IsTextOf t i) same is)) h)

-- no text of either is too long
bounded : (text : List ℕ) (i : Input) → IsTextOf text i → length text ≤ max_bytes text
bounded text (input.Trace past) is = omega (arith, is.bounded, most_least text)
bounded text (input.Recording r) is = is.bounded

none_long : (P : Type 0) (i : Input) (before : Option (List ℕ)) → IfSome before (λ all. max_bytes all < length all) → IfSome before (λ all. IsTextOf all i → P)
none_long P i None h = tt
none_long P i (Some all) h = λ is. absurd (let bound = bounded all i is in omega (arith, bound, h))

pub only_long : (before after : Option (List ℕ)) (i : Input) (r : Result Input AuditFault) → IsTooLong before after → IfSome before (λ all. IsTextOf all i → IsReadOrFailed i r)
only_long before after i r long = none_long (IsReadOrFailed i r) i before (too_long before after long)

-- ---- a reader's own steps

pub long_unheaded : (text : List ℕ) → MAX_BYTES < length text → Err (fault.Recording recording_fault.BadHeader) ≡ parsed_unheaded text
unfolding parsed_unheaded
long_unheaded text long = sym (ap (λ b. cond b (as_trace (traces.reading (records_in text))) (Err (fault.Recording recording_fault.BadHeader))) (lt-leb (length text) MAX_BYTES long))

short_unheaded : (text : List ℕ) → length text ≤ MAX_BYTES → parsed_unheaded text ≡ as_trace (traces.reading (records_in text))
unfolding parsed_unheaded
short_unheaded text short = ap (λ b. cond b (as_trace (traces.reading (records_in text))) (Err (fault.Recording recording_fault.BadHeader))) (le-leb (length text) MAX_BYTES short)

pub trace_parsed : (text : List ℕ) (r : Result Past TraceFault) → length text ≤ MAX_BYTES → Gives trace_fault.OutOfMemory r (traces.reading (records_in text)) → AsRead (as_trace r) (parsed_unheaded text)
trace_parsed text (Ok past) short h = ap as_trace (h (λ k. cc)) ∙ sym (short_unheaded text short)
trace_parsed text (Err trace_fault.OutOfMemory) short h = tt
trace_parsed text (Err e) short h = ap as_trace (h (λ k. cc)) ∙ sym (short_unheaded text short)

pub recording_parsed : (text : List ℕ) (r : Result Recorded RecordingFault) (read : Recorded) → Gives recording_fault.OutOfMemory r (recordings.reading (records_in text)) → r ≡ Ok read → Ok (input.Recording read) ≡ parsed text
unfolding parsed
recording_parsed text r read h is = ap (as_either text) (sym is ∙ h (λ k. let both : Ok read ≡ Err recording_fault.OutOfMemory = sym is ∙ k in cc))

bare_parsed : (text : List ℕ) → recordings.reading (records_in text) ≡ Err recording_fault.BadHeader → parsed text ≡ parsed_unheaded text
unfolding parsed
bare_parsed text is = ap (as_either text) is

pub unheaded_parsed : (text : List ℕ) (r : Result Recorded RecordingFault) (e : RecordingFault) (answer : Result Input AuditFault) → Gives recording_fault.OutOfMemory r (recordings.reading (records_in text)) → r ≡ Err e → e ≡ recording_fault.BadHeader
    → AsRead answer (parsed_unheaded text) → AsRead answer (parsed text)
unheaded_parsed text r e answer h is bare reads =
    let none : r ≡ Err recording_fault.BadHeader = is ∙ ap (λ (x : RecordingFault). Err x) bare in
    let read : recordings.reading (records_in text) ≡ Err recording_fault.BadHeader = sym (h (λ k. let both : Err recording_fault.BadHeader ≡ Err recording_fault.OutOfMemory = sym none ∙ k in cc)) ∙ none in
    subst (AsRead answer) (sym (bare_parsed text read)) reads

faulty_parsed : (text : List ℕ) (e : RecordingFault) → (e ≡ recording_fault.BadHeader → ⊥) → recordings.reading (records_in text) ≡ Err e → Err (fault.Recording e) ≡ parsed text
unfolding parsed
faulty_parsed text recording_fault.BadHeader other is = absurd (other refl)
faulty_parsed text e other is = sym (ap (as_either text) is)

pub fault_parsed : (text : List ℕ) (r : Result Recorded RecordingFault) (e : RecordingFault) → Gives recording_fault.OutOfMemory r (recordings.reading (records_in text)) → r ≡ Err e → (e ≡ recording_fault.BadHeader → ⊥) → AsRead (Err (fault.Recording e)) (parsed text)
fault_parsed text r recording_fault.OutOfMemory h is other = tt
fault_parsed text r e h is other = faulty_parsed text e other (sym (h (λ k. let both : Err e ≡ Err recording_fault.OutOfMemory = sym is ∙ k in cc)) ∙ is)
