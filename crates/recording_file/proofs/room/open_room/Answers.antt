use Rattle.recording_file.proofs.RoomLemmas.{row_more}
use Rattle.recording_file.proofs.room.open_room.Goals as goal

pub loop-row-preserved : goal.loop-row-preserved
loop-row-preserved c = rw c.in_ok-push_row.ensures (row_more c.args.rounds _ c.loop-row.row c.loop-row.cells.items c.openings_in.result c.loop-row.invariant c.openings_in.ensures)
