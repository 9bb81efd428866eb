use Rattle.recording_file.proofs.RoomLemmas.{IsLaidTo}
use Rattle.recording_file.proofs.room.lay_cap.Given as goal

abbrev pub invariant-loop-at : goal.invariant-loop-at
invariant-loop-at l = IsLaidTo l.start l.at l.cap.most l.fn.cells l.cells
