-- What is checked, audited and proved: a trace of this transport, or a recording of any scheduler.
use Rattle.std.specs.Prelude.{◌≡◌, ℕ, Bool, true, false, List, [], Option, Some, None, Result, Ok, Err, ⊤, IsTrue}
use Rattle.std.specs.List.{list_all}
use Rattle.audit_report.specs.Words.{prefixed, Stay, NetRows, net_of, instance_of, live_of, instance_of_rows, live_of_rows, cost, live_cost, stands_free, unsent, history_rules, is_legal, IsTrace, IsHistory}
use Rattle.audit_report.specs.Words.{net_of_recording, IsRecording, IsRecordingText, IsLongWhole}
use Rattle.recording_file.specs.Whole.{IsTooLong}
use Rattle.recording_file.specs.Reading as recordings
use Rattle.recording_file.specs.Recordings as recorded
use Rattle.record_text.specs.Text.{records_in}
use Rattle.recording_file.specs.declared.recording_fault.RecordingFault.TheVariants as recording_fault
use Rattle.report_text.specs.declared.report_fault.ReportFault.TheVariants as report_fault
use Rattle.trace_file.specs.Trace as traced
use Rattle.trace_file.specs.declared.trace_fault.TraceFault.TheVariants as trace_fault
pub use Rattle.audit_report.specs.declared.input.Input.{Input}
use Rattle.audit_report.specs.declared.input.Input.TheVariants as input
use Rattle.audit_report.specs.declared.audit_fault.AuditFault.{AuditFault}
use Rattle.audit_report.specs.declared.audit_fault.AuditFault.TheVariants as fault

-- its net
abbrev pub net_of_input : Input → NetRows
net_of_input (input.Trace past) = net_of past.config past.events
net_of_input (input.Recording r) = net_of_recording r

-- the first of its stays, in creation order, that has no send; each request of a recording was started
abbrev pub unsent_of : Input → Option Stay
unsent_of (input.Trace past) = unsent past.events
unsent_of (input.Recording r) = None

-- its live schedule costs so much: what the net's costs, and of a history what its events say
abbrev pub IsLiveCost : Input → ℕ → Type 0
IsLiveCost (input.Trace past) n = (live_cost past.config past.events ≡ Some n) × (n ≡ cost (instance_of past.config past.events) (live_of past.config past.events))
IsLiveCost (input.Recording r) n = n ≡ cost (instance_of_rows (net_of_recording r)) (live_of_rows (net_of_recording r))

-- each send of a history stands where its device and adapter were free
abbrev pub StandsFree : Input → Type 0
StandsFree (input.Trace past) = IsTrue (list_all (stands_free past.config) (prefixed past.events))
StandsFree (input.Recording r) = ⊤

-- a history is legal
abbrev pub IsLegal : Input → Type 0
IsLegal (input.Trace past) = is_legal history_rules past.config past.events ≡ true
IsLegal (input.Recording r) = ⊤

-- the text is its trace, or its recording
abbrev pub IsTextOf : List ℕ → Input → Type 0
IsTextOf text (input.Trace past) = IsTrace text past
IsTextOf text (input.Recording r) = IsRecordingText text r

-- its rules are kept, and its numbers fit their fields
abbrev pub IsInput : Input → Type 0
IsInput (input.Trace past) = IsHistory past
IsInput (input.Recording r) = IsRecording r

-- what was read to its end was its text
pub record WasRead (before after : Option (List ℕ)) (i : Input) : Type 0 where
  pub text : List ℕ
  pub whole : IsLongWhole before after text
  pub spelled : IsTextOf text i
  pub kept : IsInput i

-- The text begins with no recording's header, and a reader of traces that reads it to its end finds this fault; or it has that
-- header, or is too long for a trace, and read as a recording it has this fault first.
abbrev pub IsFaultOf : List ℕ → AuditFault → Type 0
IsFaultOf text (fault.Trace e) =
    (recordings.reading (records_in text) ≡ Err recording_fault.BadHeader) × traced.Explains (Some text) (Some []) false e
IsFaultOf text (fault.Recording e) = recorded.WasFaulty (Some text) (Some []) e
IsFaultOf text _ = ⊥

-- what was read to its end has this fault
pub record WasFaulty (before after : Option (List ℕ)) (e : AuditFault) : Type 0 where
  pub text : List ℕ
  pub whole : IsLongWhole before after text
  pub first : IsFaultOf text e

-- Why nothing was read, where the reader's note says at last whether a call failed. A length, a failed read and want of
-- memory are a trace's faults before it is known which text it is.
abbrev pub WhyNotRead : Option (List ℕ) → Option (List ℕ) → Bool → AuditFault → Type 0
WhyNotRead before after failed (fault.Trace trace_fault.TooLong) = IsTooLong before after
WhyNotRead before after failed (fault.Trace trace_fault.ReadFailed) = failed ≡ true
WhyNotRead before after failed (fault.Trace trace_fault.OutOfMemory) = ⊤
WhyNotRead before after failed (fault.Recording recording_fault.OutOfMemory) = ⊤
WhyNotRead before after failed e = WasFaulty before after e

-- it was read, and this is the first of its stays that has no send
pub record WasUnsent (before after : Option (List ℕ)) (s : Stay) : Type 0 where
  pub read : Input
  pub was : WasRead before after read
  pub first : unsent_of read ≡ Some s

-- it was read, and each of its stays has a send
pub record WasComplete (before after : Option (List ℕ)) : Type 0 where
  pub read : Input
  pub was : WasRead before after read
  pub complete : unsent_of read ≡ None

-- why what was read has no net
abbrev pub WhyNoNetOf : Input → AuditFault → Type 0
WhyNoNetOf i (fault.Unsent s) = unsent_of i ≡ Some s
WhyNoNetOf i fault.OutOfMemory = unsent_of i ≡ None
WhyNoNetOf i _ = ⊥

-- Why there is no net to check or to plan. But for what the reading wants, memory is wanting only where each stay has a send.
abbrev pub WhyNoNet : Option (List ℕ) → Option (List ℕ) → Bool → AuditFault → Type 0
WhyNoNet before after failed (fault.Unsent s) = WasUnsent before after s
WhyNoNet before after failed fault.OutOfMemory = WasComplete before after
WhyNoNet before after failed e = WhyNotRead before after failed e

-- memory was wanting, or a read or a write failed
abbrev pub IsFailure : AuditFault → Type 0
IsFailure (fault.Trace trace_fault.ReadFailed) = ⊤
IsFailure (fault.Trace trace_fault.OutOfMemory) = ⊤
IsFailure (fault.Trace e) = ⊥
IsFailure (fault.Recording recording_fault.OutOfMemory) = ⊤
IsFailure (fault.Recording e) = ⊥
IsFailure (fault.Unsent s) = ⊥
IsFailure (fault.Report report_fault.ReadFailed) = ⊤
IsFailure (fault.Report report_fault.OutOfMemory) = ⊤
IsFailure (fault.Report e) = ⊥
IsFailure fault.WriteFailed = ⊤
IsFailure fault.OutOfMemory = ⊤

-- what was asked for came, or one of these
abbrev pub IsReadOrFailed : Input → Result Input AuditFault → Type 0
IsReadOrFailed i (Ok read) = read ≡ i
IsReadOrFailed i (Err e) = IsFailure e

abbrev pub IsNettedOrFailed : Input → Result (Input × NetRows) AuditFault → Type 0
IsNettedOrFailed i (Ok read) = read.0 ≡ i
IsNettedOrFailed i (Err e) = IsFailure e
