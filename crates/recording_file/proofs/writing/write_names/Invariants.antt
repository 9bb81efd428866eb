use Rattle.std.proofs.Common.{map, take}
use Rattle.recording_file.specs.Records.{name_row}
use Rattle.record_text.specs.Writing.{Wrote}
use Rattle.recording_file.proofs.writing.write_names.Given as goal

abbrev pub invariant-loop-name : goal.invariant-loop-name
invariant-loop-name l = Wrote l.fn.writer l.writer (map name_row (take l.name-index l.names))
