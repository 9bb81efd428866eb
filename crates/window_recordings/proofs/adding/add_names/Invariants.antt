use Rattle.std.proofs.Common.{◌≡◌, take}
use Rattle.window_recordings.proofs.adding.add_names.Given as goal

abbrev pub invariant-loop-name : goal.invariant-loop-name
invariant-loop-name l = l.recorder ≡ record l.fn.recorder { names = take l.name-index l.recording.names }
