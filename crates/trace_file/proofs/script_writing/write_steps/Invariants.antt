use Rattle.std.proofs.Common.{map, take}
use Rattle.std.specs.List.{AllByRecursion}
use Rattle.trace_file.specs.Script.{FitsRow}
use Rattle.trace_file.specs.ScriptRows.{script_row}
use Rattle.trace_file.specs.ScriptWriting.{step_row}
use Rattle.record_text.specs.Writing.{Wrote}
use Rattle.trace_file.proofs.script_writing.write_steps.Given as goal

abbrev pub invariant-loop-step : goal.invariant-loop-step
invariant-loop-step l = Wrote l.fn.writer l.writer (map script_row (map (step_row l.config l.driver) (take l.step-index l.steps)))
    × AllByRecursion FitsRow (map (step_row l.config l.driver) (take l.step-index l.steps))
