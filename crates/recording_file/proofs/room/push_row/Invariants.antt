use Rattle.std.proofs.Common.{◌≡◌, ◌++◌, replicate}
use Rattle.recording_file.proofs.room.push_row.Given as goal

abbrev pub invariant-loop-column : goal.invariant-loop-column
invariant-loop-column l = l.cells.items ≡ l.fn.cells.items ++ replicate l._column l.openings
