use Rattle.std.proofs.Common.{◌∙◌, ap}
use Rattle.trace_file.specs.Reading.{ended, reading, step, Header}
use Rattle.trace_file.specs.Trace.{IsTrace}
use Rattle.trace_file.proofs.FaultLaws.{faults_law, reading_fails, was_trace}
use Rattle.record_text.proofs.FaultLaws.{found_law, only_law}
use Rattle.trace_file.proofs.WholeLaws.{reading_again}
use Rattle.trace_file.proofs.reading.read_trace.Goals as goal

pub returns-in-Ok-clause-found : goal.returns-in-Ok-clause-found
returns-in-Ok-clause-found g c = found_law _ _ _ _ (rw c.deref.ensures.value at c.parse_trace.ensures) (was_trace _ _ _ c.in-Ok.ensures.whole)

pub returns-in-Ok-clause-only : goal.returns-in-Ok-clause-only
returns-in-Ok-clause-only g c = λ past h.
    only_law _ _ (λ text. IsTrace text past) _ _ _ _ _ past c.in-Ok.ensures.whole.read c.in-Ok.ensures.whole.ended (rw c.deref.ensures.value at c.parse_trace.ensures) (λ is. ap reading is.spelled ∙ reading_again is.version past h is.held)

pub returns-in-Ok-clause-faults : goal.returns-in-Ok-clause-faults
unfolding reading
returns-in-Ok-clause-faults g c = faults_law step ended Header _ _ _ _ _ reading_fails c.in-Ok.ensures.whole (rw c.deref.ensures.value at c.parse_trace.ensures)
