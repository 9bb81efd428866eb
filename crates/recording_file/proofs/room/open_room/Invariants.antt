use Rattle.recording_file.specs.Caps.{openings}
use Rattle.recording_file.specs.Room.{part_in}
use Rattle.recording_file.proofs.RoomLemmas.{HasRows}
use Rattle.recording_file.proofs.room.open_room.Given as goal

abbrev pub invariant-loop-row : goal.invariant-loop-row
invariant-loop-row l = HasRows l.rounds (λ row. openings l.config (part_in row)) l.row l.cells.items
