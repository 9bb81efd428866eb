-- what is read of a trace that is to be explained or recorded, and what is written of it as a recording
use Rattle.std.specs.Prelude.{◌≡◌, ℕ, Bool, List, Option, Some, None}
use Rattle.audit_report.specs.Words.{Past, Stay, unsent, WasTrace, Explains, IsRecording, IsRecordingText, recording_text, recorded_of}
use Rattle.audit_report.specs.Runs.{AuditFault, Trace, Unsent, OutOfMemory}

-- a trace was read, and this is the first of its stays that has no send, if there is one
pub record WasTraceOf (before after : Option (List ℕ)) (first : Option Stay) : Type 0 where
  pub past : Past
  pub trace : WasTrace before after past
  pub unsent : unsent past.events ≡ first

-- why no complete history was read, or memory was wanting for what is made of it
abbrev pub WhyNoHistory : Option (List ℕ) → Option (List ℕ) → Bool → AuditFault → Type 0
WhyNoHistory before after failed (Trace fault) = Explains before after failed fault
WhyNoHistory before after failed (Unsent s) = WasTraceOf before after (Some s)
WhyNoHistory before after failed OutOfMemory = WasTraceOf before after None
WhyNoHistory before after failed _ = ⊥

-- the text of the recording of a complete history's net
pub record IsRecord (past : Past) (text : List ℕ) : Type 0 where
  pub complete : unsent past.events ≡ None
  pub lines : text ≡ recording_text (recorded_of past)
  pub spelled : IsRecordingText text (recorded_of past)
  pub recording : IsRecording (recorded_of past)
