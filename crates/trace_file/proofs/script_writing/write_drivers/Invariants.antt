use Rattle.std.proofs.Common.{map, take}
use Rattle.std.specs.List.{AllByRecursion}
use Rattle.trace_file.specs.Script.{FitsRow}
use Rattle.trace_file.specs.ScriptRows.{script_row}
use Rattle.trace_file.specs.ScriptWriting.{numbered, step_row}
use Rattle.record_text.specs.Writing.{Wrote}
use Rattle.trace_file.proofs.script_writing.write_drivers.Given as goal

abbrev pub invariant-loop-driver : goal.invariant-loop-driver
invariant-loop-driver l = Wrote l.fn.writer l.writer (map script_row (numbered (step_row l.config) 0 (take l.driver (map (λ x. x.items) l.drivers))))
    × AllByRecursion FitsRow (numbered (step_row l.config) 0 (take l.driver (map (λ x. x.items) l.drivers)))
