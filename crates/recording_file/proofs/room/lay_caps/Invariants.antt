use Rattle.std.proofs.Common.{◌≤◌, length, drop}
use Rattle.recording_file.proofs.RoomLemmas.{AreLaid}
use Rattle.recording_file.proofs.room.lay_caps.Given as goal

abbrev pub invariant-loop-left : goal.invariant-loop-left
invariant-loop-left l = record { bound : l.left ≤ length l.caps; laid : AreLaid l.rounds (drop l.left l.caps) l.fn.cells l.cells }

abbrev pub decreases-loop-left : goal.decreases-loop-left
decreases-loop-left l = l.left
