-- how a run over a trace or a recording, and a report on it, ends
use Rattle.std.specs.Prelude.{◌≡◌, ◌⊎◌, ℕ, Bool, true, List, Option, None, Result, Ok, Err}
use Rattle.std.specs.Io.KnownBytes.{Appends}
use Rattle.audit_report.specs.Words.{AppendsFront, Claim, ReportFault}
use Rattle.audit_report.specs.Inputs.{Input, net_of_input, unsent_of, WasRead, WasComplete, WhyNoNet, IsFailure}
use Rattle.report_text.specs.Claims as claims
use Rattle.audit_report.specs.Runs.{AuditFault, Report, WriteFailed, OutOfMemory}
use Rattle.audit_report.specs.Findings.{Says, is_proved, finding_text, Finding}

-- what the readers still have, what the writer took, and whether a call of each failed
pub record Streams : Type 0 where
  pub trace : Option (List ℕ)
  pub report : Option (List ℕ)
  pub out : Option (List ℕ)
  pub trace_failed : Bool
  pub report_failed : Bool
  pub out_failed : Bool

module _ (before after : Streams) where
  -- an input and a report on it were read to their ends, and this is what comes of the report
  pub record WasFound (finding : Finding) : Type 0 where
    pub read : Input
    pub claim : Claim
    pub was : WasRead before.trace after.trace read
    pub report : claims.WasReport (net_of_input read) before.report after.report claim
    pub says : Says (net_of_input read) claim finding

  -- its line was written, all of it, and whether it says that the claim is proved was answered
  pub record Answered (answer : Bool) : Type 0 where
    pub finding : Finding
    pub found : WasFound finding
    pub answered : answer ≡ is_proved finding
    pub written : Appends before.out after.out (finding_text finding)

  -- only the front of it was written, and the writer's note says that a call failed
  pub record AnsweredFront : Type 0 where
    pub finding : Finding
    pub found : WasFound finding
    pub front : AppendsFront before.out after.out (finding_text finding)
    pub failed : after.out_failed ≡ true

  -- an input in which each stay has a send was read to its end, and no report on it, for this fault
  pub record WasNoReport (fault : ReportFault) : Type 0 where
    pub read : Input
    pub was : WasRead before.trace after.trace read
    pub complete : unsent_of read ≡ None
    pub why : claims.Explains (net_of_input read) before.report after.report after.report_failed fault

  -- an input and a report on it were read to their ends
  pub record WasClaimed : Type 0 where
    pub read : Input
    pub claim : Claim
    pub was : WasRead before.trace after.trace read
    pub report : claims.WasReport (net_of_input read) before.report after.report claim

  -- memory was wanting for what was read: for stays that each have a send, of whose report nothing was read yet, or for a claim
  abbrev pub WasShort : Type 0
  WasShort = (WasComplete before.trace after.trace × (after.report ≡ before.report)) ⊎ WasClaimed

  -- how the run ended: with an answer, or with a failed write, or with a fault for its cause and nothing written; nothing of
  -- the report was read where there was no net
  abbrev pub Proving : Result Bool AuditFault → Type 0
  Proving (Ok answer) = Answered answer
  Proving (Err WriteFailed) = AnsweredFront
  Proving (Err OutOfMemory) = WasShort × (after.out ≡ before.out)
  Proving (Err (Report fault)) = WasNoReport fault × (after.out ≡ before.out)
  Proving (Err fault) = WhyNoNet before.trace after.trace after.trace_failed fault × (after.report ≡ before.report) × (after.out ≡ before.out)

-- the report was proved, unless memory was wanting or a read or a write failed
abbrev pub IsProvedOrFailed : Result Bool AuditFault → Type 0
IsProvedOrFailed (Ok answer) = answer ≡ true
IsProvedOrFailed (Err fault) = IsFailure fault
