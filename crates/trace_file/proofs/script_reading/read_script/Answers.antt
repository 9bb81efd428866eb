use Rattle.std.proofs.Common.{◌∙◌, ap}
use Rattle.trace_file.specs.ScriptReading.{script_ended, script_reading, script_step, Header}
use Rattle.trace_file.specs.Script.{IsScript, scenario_of}
use Rattle.trace_file.proofs.ScriptAgain.{script_again}
use Rattle.trace_file.proofs.ScriptFaults.{reading_fails}
use Rattle.trace_file.proofs.ScriptLaws.{was_script}
use Rattle.trace_file.proofs.FaultLaws.{faults_law}
use Rattle.record_text.proofs.FaultLaws.{found_law, only_law}
use Rattle.trace_file.proofs.script_reading.read_script.Goals as goal

pub returns-in-Ok-clause-found : goal.returns-in-Ok-clause-found
returns-in-Ok-clause-found g c = found_law _ _ _ _ (rw c.deref.ensures.value at c.read_script_text.ensures) (was_script _ _ _ c.in-Ok.ensures.whole)

pub returns-in-Ok-clause-only : goal.returns-in-Ok-clause-only
returns-in-Ok-clause-only g c = λ m kept.
    only_law _ _ (λ text. IsScript text m) _ _ _ _ _ (scenario_of m) c.in-Ok.ensures.whole.read c.in-Ok.ensures.whole.ended (rw c.deref.ensures.value at c.read_script_text.ensures) (λ is. ap script_reading is.spelled ∙ script_again m kept)

pub returns-in-Ok-clause-faults : goal.returns-in-Ok-clause-faults
unfolding script_reading
returns-in-Ok-clause-faults g c = faults_law script_step script_ended Header _ _ _ _ _ reading_fails c.in-Ok.ensures.whole (rw c.deref.ensures.value at c.read_script_text.ensures)
