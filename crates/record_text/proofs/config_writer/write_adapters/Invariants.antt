use Rattle.std.proofs.Common.{map, take}
use Rattle.record_text.specs.ConfigRows.{adapter_row}
use Rattle.record_text.specs.Writing.{Wrote}
use Rattle.record_text.proofs.config_writer.write_adapters.Given as goal

abbrev pub invariant-loop-adapter : goal.invariant-loop-adapter
invariant-loop-adapter l = Wrote l.fn.writer l.writer (map adapter_row (take l.adapter-index l.adapters))
