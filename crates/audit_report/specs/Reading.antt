-- How a text is read, as a recording or as a trace.
use Rattle.std.specs.Prelude.{◌≡◌, ℕ, List, length, nat_le, if◌then◌else◌, Result, Ok, Err, ⊤}
use Rattle.audit_report.specs.Words.{MAX_BYTES, Past}
use Rattle.recording_file.specs.Reading as recordings
use Rattle.recording_file.specs.Recorded.{Recorded}
use Rattle.record_text.specs.Text.{records_in}
use Rattle.recording_file.specs.declared.recording_fault.RecordingFault.{RecordingFault}
use Rattle.recording_file.specs.declared.recording_fault.RecordingFault.TheVariants as recording_fault
use Rattle.trace_file.specs.Reading as traces
use Rattle.trace_file.specs.declared.trace_fault.TraceFault.{TraceFault}
use Rattle.trace_file.specs.declared.trace_fault.TraceFault.TheVariants as trace_fault
use Rattle.audit_report.specs.Inputs.{Input}
use Rattle.audit_report.specs.declared.input.Input.TheVariants as input
use Rattle.audit_report.specs.declared.audit_fault.AuditFault.{AuditFault}
use Rattle.audit_report.specs.declared.audit_fault.AuditFault.TheVariants as fault

abbrev pub as_trace : Result Past TraceFault → Result Input AuditFault
as_trace (Ok past) = Ok (input.Trace past)
as_trace (Err e) = Err (fault.Trace e)

-- what a text says that has no recording's header: that of a trace, unless it is too long for one
unfoldable pub parsed_unheaded : List ℕ → Result Input AuditFault
parsed_unheaded text = if nat_le (length text) MAX_BYTES then as_trace (traces.reading (records_in text)) else Err (fault.Recording recording_fault.BadHeader)

abbrev pub as_either : List ℕ → Result Recorded RecordingFault → Result Input AuditFault
as_either text (Ok r) = Ok (input.Recording r)
as_either text (Err recording_fault.BadHeader) = parsed_unheaded text
as_either text (Err e) = Err (fault.Recording e)

-- what a text says: that of a recording, where its first record is the header of one
unfoldable pub parsed : List ℕ → Result Input AuditFault
parsed text = as_either text (recordings.reading (records_in text))

-- an answer that is what the text says, unless memory was wanting
abbrev pub AsRead : Result Input AuditFault → Result Input AuditFault → Type 0
AsRead (Err (fault.Trace trace_fault.OutOfMemory)) r = ⊤
AsRead (Err (fault.Recording recording_fault.OutOfMemory)) r = ⊤
AsRead answer r = answer ≡ r
