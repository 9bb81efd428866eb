use Rattle.std.proofs.Common.{map, take}
use Rattle.std.specs.List.{AllByRecursion}
use Rattle.trace_file.specs.Script.{FitsRow}
use Rattle.trace_file.specs.ScriptRows.{script_row}
use Rattle.trace_file.specs.declared.script_row.ScriptRow.TheVariants as row
use Rattle.record_text.specs.Writing.{Wrote}
use Rattle.trace_file.proofs.script_writing.write_outcomes.Given as goal

abbrev pub invariant-loop-outcome : goal.invariant-loop-outcome
invariant-loop-outcome l = Wrote l.fn.writer l.writer (map script_row (map (row.Answer l.lane) (take l.outcome-index l.outcomes)))
    × AllByRecursion FitsRow (map (row.Answer l.lane) (take l.outcome-index l.outcomes))
