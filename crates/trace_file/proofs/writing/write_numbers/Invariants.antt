use Rattle.std.proofs.Common.{[], ◌∷◌, map, take, decimal}
use Rattle.record_text.specs.ConfigRows.{padded}
use Rattle.record_text.specs.Writing.{Wrote}
use Rattle.trace_file.proofs.writing.write_numbers.Given as goal

abbrev pub invariant-loop-number : goal.invariant-loop-number
invariant-loop-number l = Wrote l.fn.writer l.writer (map (λ n. padded (l.word ∷ decimal n ∷ [])) (take l.number-index l.numbers))
