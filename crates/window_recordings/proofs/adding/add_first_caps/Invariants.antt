use Rattle.std.proofs.Common.{◌≡◌, [], take}
use Rattle.window_recordings.specs.Windows.{first_caps}
use Rattle.window_recordings.proofs.adding.add_first_caps.Given as goal

abbrev pub invariant-loop-cap : goal.invariant-loop-cap
invariant-loop-cap l = l.recorder ≡ record l.recording { rounds = l.round; requests = []; caps = first_caps l.round (take l.cap-index l.recording.caps) }
