use Rattle.std.proofs.Common.{map, take}
use Rattle.recording_file.specs.Records.{cap_row}
use Rattle.record_text.specs.Writing.{Wrote}
use Rattle.recording_file.proofs.writing.write_caps.Given as goal

abbrev pub invariant-loop-cap : goal.invariant-loop-cap
invariant-loop-cap l = Wrote l.fn.writer l.writer (map cap_row (take l.cap-index l.caps))
