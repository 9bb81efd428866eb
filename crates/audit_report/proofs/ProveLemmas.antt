-- a report that an audit wrote is proved
use Rattle.std.proofs.Common.{◌≡◌, ◌≢◌, ◌≤◌, ◌∙◌, ℕ, true, false, List, sym, ap, subst, inl, Option, Some, None, Result, Ok, Err, IfSome, IsErrAnd, Bool}
use Rattle.std.specs.List.{AllByRecursion}
use Rattle.cam_types.specs.declared.device.Device.{Device}
use Rattle.audit_report.specs.Words.{NetRows, instance_of_rows, net_of, net_of_recording, Claim, IsClaim, ReportFault}
use Rattle.report_text.specs.Claims.{IsReport}
use Rattle.report_text.specs.declared.report_fault.ReportFault.TheVariants as report_fault
use Rattle.audit_report.specs.Findings.{IsRight, is_proved, Finding}
use Rattle.audit_report.specs.declared.finding.Finding.TheVariants.{Proved}
use Rattle.audit_report.specs.declared.input.Input.TheVariants as input
use Rattle.audit_report.specs.declared.audit_fault.AuditFault.TheVariants as fault
use Rattle.audit_report.specs.Audit.{IsAudit}
use Rattle.audit_report.specs.Inputs.{Input, IsInput, IsTextOf, IsFailure, IsNettedOrFailed, unsent_of, net_of_input}
use Rattle.audit_report.specs.Prove.{IsProvedOrFailed}
use Rattle.audit_report.specs.Runs.{AuditFault}

-- what a reader of an input in which each stay has a send promises
abbrev pub ReadsInput : Option (List ℕ) → Result (Input × NetRows) AuditFault → Type 0
ReadsInput r read = (i : Input) → IsInput i → unsent_of i ≡ None → IfSome r (λ all. IsTextOf all i → IsNettedOrFailed i read)

-- if it was not read, no report is read
err_cases : (i : Input) (read : Result (Input × NetRows) AuditFault) (fault : AuditFault) (result : Result Bool AuditFault) → read ≡ Err fault → IsErrAnd result (λ f. f ≡ fault) →
    IsNettedOrFailed i read → IsProvedOrFailed result
err_cases i read fault (Ok answer) is there h = absurd there
err_cases i read fault (Err f) is there h = subst IsFailure (sym there) (subst (λ x. IsNettedOrFailed i x) is h)

pub proved_or_failed : (r s : Option (List ℕ)) (i : Input) (text : List ℕ) (read : Result (Input × NetRows) AuditFault) (fault : AuditFault) (result : Result Bool AuditFault) → IsInput i → IsAudit false i text →
    ReadsInput r read → read ≡ Err fault → IsErrAnd result (λ f. f ≡ fault) →
    IfSome r (λ all. IsTextOf all i → IfSome s (λ given. given ≡ text → IsProvedOrFailed result))
proved_or_failed None s i text read fault result kept audit only is there = tt
proved_or_failed (Some all) None i text read fault result kept audit only is there = λ spelled. tt
proved_or_failed (Some all) (Some given) i text read fault result kept audit only is there =
    λ spelled same. err_cases i read fault result is there (only i kept audit.complete spelled)

-- where it was read, it is what the text says
read_again : (i j : Input) (net : NetRows) (read : Result (Input × NetRows) AuditFault) → read ≡ Ok (j, net) → IsNettedOrFailed i read → j ≡ i
read_again i j net read is h = subst (λ x. IsNettedOrFailed i x) is h

-- what a reader of reports on an input promises of the report of an audit
abbrev pub ReadsReport : Option (List ℕ) → Input → Result Bool AuditFault → Type 0
ReadsReport s i result = (text : List ℕ) → IsInput i → IsAudit false i text → IfSome s (λ given. given ≡ text → IsProvedOrFailed result)

pub proved_there : (r s : Option (List ℕ)) (i j : Input) (text : List ℕ) (net : NetRows) (read : Result (Input × NetRows) AuditFault) (result : Result Bool AuditFault) → IsInput i → IsAudit false i text →
    ReadsInput r read → read ≡ Ok (j, net) → ReadsReport s j result →
    IfSome r (λ all. IsTextOf all i → IfSome s (λ given. given ≡ text → IsProvedOrFailed result))
proved_there None s i j text net read result kept audit only is reads = tt
proved_there (Some all) s i j text net read result kept audit only is reads =
    λ spelled. let same : j ≡ i = read_again i j net read is (only i kept audit.complete spelled) in
    subst (λ k. ReadsReport s k result) same reads text kept audit

-- the targets of an input's devices fit their fields
targets_of : (i : Input) → IsInput i → AllByRecursion (λ (d : Device). d.target ≤ 65535) (net_of_input i).config.devices
unfolding net_of net_of_recording
targets_of (input.Trace past) kept = kept.targets
targets_of (input.Recording r) kept = kept.targets

-- what a reader of reports on the net promises
abbrev pub ReadsClaim : Option (List ℕ) → NetRows → Result Claim ReportFault → Type 0
ReadsClaim s net r = (claim : Claim) → IsClaim (instance_of_rows net) claim → AllByRecursion (λ (d : Device). d.target ≤ 65535) net.config.devices →
    IfSome s (λ all. IsReport net all claim → r ≢ Err report_fault.OutOfMemory → r ≢ Err report_fault.ReadFailed → r ≡ Ok claim)

-- so the report of an audit is read as the audit's claim
read_as : (s : Option (List ℕ)) (i : Input) (text : List ℕ) (net : NetRows) (r : Result Claim ReportFault) (a : IsAudit false i text) → IsInput i → net ≡ net_of_input i → ReadsClaim s net r →
    IfSome s (λ given. given ≡ text → r ≢ Err report_fault.OutOfMemory → r ≢ Err report_fault.ReadFailed → r ≡ Ok a.claim)
read_as None i text net r a kept is reads = tt
read_as (Some given) i text net r a kept is reads = λ same memory calm.
    let there : ReadsClaim (Some given) (net_of_input i) r = subst (λ n. ReadsClaim (Some given) n r) is reads in
    there a.claim a.claims (targets_of i kept) (subst (λ t. IsReport (net_of_input i) t a.claim) (sym same) (record { bounded = a.short; spelled = inl a.lines })) memory calm

abbrev Reads : Claim → Result Claim ReportFault → Type 0
Reads claim r = r ≢ Err report_fault.OutOfMemory → r ≢ Err report_fault.ReadFailed → r ≡ Ok claim

fault_cases : (claim : Claim) (e : ReportFault) → Reads claim (Err e) → IsFailure (fault.Report e)
fault_cases claim report_fault.ReadFailed h = tt
fault_cases claim report_fault.OutOfMemory h = tt
fault_cases claim e h = absurd (let is = h (λ k. cc) (λ k. cc) in cc)

pub fault_there : (s : Option (List ℕ)) (i : Input) (text : List ℕ) (net : NetRows) (r : Result Claim ReportFault) (e : ReportFault) → IsInput i → IsAudit false i text → net ≡ net_of_input i → ReadsClaim s net r → r ≡ Err e →
    IfSome s (λ given. given ≡ text → IsFailure (fault.Report e))
fault_there None i text net r e kept a is reads was = tt
fault_there (Some given) i text net r e kept a is reads was = λ same.
    fault_cases a.claim e (subst (Reads a.claim) was (read_as (Some given) i text net r a kept is reads same))

-- and found right
pub found_there : (s : Option (List ℕ)) (i : Input) (text : List ℕ) (net : NetRows) (r : Result Claim ReportFault) (claim : Claim) → IsInput i → IsAudit false i text → net ≡ net_of_input i → ReadsClaim s net r → r ≡ Ok claim →
    IfSome s (λ given. given ≡ text → IsRight net claim)
found_there None i text net r claim kept a is reads was = tt
found_there (Some given) i text net r claim kept a is reads was = λ same.
    let read = read_as (Some given) i text net r a kept is reads same (λ k. let both : Ok claim ≡ Err report_fault.OutOfMemory = sym was ∙ k in cc) (λ k. let both : Ok claim ≡ Err report_fault.ReadFailed = sym was ∙ k in cc) in
    let one : claim ≡ a.claim = (let both : Ok claim ≡ Ok a.claim = sym was ∙ read in cc) in
    subst (λ n. IsRight n claim) (sym is) (subst (IsRight (net_of_input i)) (sym one) a.right)

pub proved_found : (s : Option (List ℕ)) (text : List ℕ) (net : NetRows) (claim : Claim) (finding : Finding) (answer : Bool) → IfSome s (λ given. given ≡ text → IsRight net claim) → (IsRight net claim → finding ≡ Proved) → answer ≡ is_proved finding →
    IfSome s (λ given. given ≡ text → answer ≡ true)
proved_found None text net claim finding answer right says is = tt
proved_found (Some given) text net claim finding answer right says is = λ same. is ∙ ap is_proved (says (right same))
