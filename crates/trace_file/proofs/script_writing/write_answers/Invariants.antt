use Rattle.std.proofs.Common.{map, take}
use Rattle.std.specs.List.{AllByRecursion}
use Rattle.trace_file.specs.Script.{FitsRow}
use Rattle.trace_file.specs.ScriptRows.{script_row}
use Rattle.trace_file.specs.ScriptWriting.{numbered}
use Rattle.trace_file.specs.declared.script_row.ScriptRow.TheVariants as row
use Rattle.record_text.specs.Writing.{Wrote}
use Rattle.trace_file.proofs.script_writing.write_answers.Given as goal

abbrev pub invariant-loop-lane : goal.invariant-loop-lane
invariant-loop-lane l = Wrote l.fn.writer l.writer (map script_row (numbered row.Answer 0 (take l.lane (map (λ x. x.items) l.answers))))
    × AllByRecursion FitsRow (numbered row.Answer 0 (take l.lane (map (λ x. x.items) l.answers)))
