use Rattle.std.proofs.Common.{map, take}
use Rattle.record_text.specs.ConfigRows.{link_row}
use Rattle.record_text.specs.Writing.{Wrote}
use Rattle.record_text.proofs.config_writer.write_links.Given as goal

abbrev pub invariant-loop-openings : goal.invariant-loop-openings
invariant-loop-openings l = Wrote l.fn.writer l.writer (map link_row (take l.openings-index l.links))
