use Rattle.recording_file.proofs.PlacingLemmas.{caps_laid}
use Rattle.recording_file.proofs.RoomLemmas.{caps_of}
use Rattle.recording_file.proofs.laid_caps.cap_table.Goals as goal

pub new_room-requires-clause-caps : goal.new_room-requires-clause-caps
new_room-requires-clause-caps c = rw (c.rounds.ensures.same, c.caps.ensures.same) (caps_laid _ c.rounds.ensures.kept.head)

pub returns : goal.returns
returns c = rw (← c.rounds.ensures.same, ← c.config.ensures.same, ← c.caps.ensures.same) (caps_of _ _ _ _ c.in_ok-cells.ensures)
