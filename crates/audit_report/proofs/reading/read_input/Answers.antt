use Rattle.std.proofs.Common.{ap, Err}
use Rattle.cam_types.specs.declared.whole.WholeFault.{WholeFault}
use Rattle.trace_file.specs.declared.trace_fault.TraceFault.TheVariants as trace_fault
use Rattle.audit_report.specs.declared.audit_fault.AuditFault.TheVariants as fault
use Rattle.audit_report.proofs.InputLemmas.{found_read, only_read, faults_read, only_long}
use Rattle.audit_report.proofs.reading.read_input.Goals as goal

pub returns-in-Ok-clause-found : goal.returns-in-Ok-clause-found
returns-in-Ok-clause-found g c = found_read _ _ _ c.parse_input.result c.in-Ok.ensures.whole (rw c.deref.ensures.value at c.parse_input.ensures)

pub returns-in-Ok-clause-only : goal.returns-in-Ok-clause-only
returns-in-Ok-clause-only g c = λ i kept. only_read _ _ _ i c.parse_input.result kept c.in-Ok.ensures.whole (rw c.deref.ensures.value at c.parse_input.ensures)

pub returns-in-Ok-clause-faults : goal.returns-in-Ok-clause-faults
returns-in-Ok-clause-faults g c = faults_read _ _ _ _ c.parse_input.result c.in-Ok.ensures.whole (rw c.deref.ensures.value at c.parse_input.ensures)

pub returns-in-Err-TooLong-clause-only : goal.returns-in-Err-TooLong-clause-only
returns-in-Err-TooLong-clause-only g c = λ i kept. only_long _ _ i (Err (fault.Trace trace_fault.TooLong)) (c.in-Err-TooLong.ensures.too_long (ap (λ (x : WholeFault). Err x) c.in-Err-TooLong.field-0-is))
