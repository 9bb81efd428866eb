use Rattle.std.proofs.Common.{map, take}
use Rattle.record_text.specs.ConfigRows.{weight_row}
use Rattle.record_text.specs.Writing.{Wrote}
use Rattle.record_text.proofs.config_writer.write_weights.Given as goal

abbrev pub invariant-loop-row : goal.invariant-loop-row
invariant-loop-row l = Wrote l.fn.writer l.writer (map weight_row (take l.row-index l.weights))
