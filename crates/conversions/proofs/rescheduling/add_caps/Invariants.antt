use Rattle.std.proofs.Common.{◌≡◌, [], take}
use Rattle.conversions.proofs.rescheduling.add_caps.Given as goal

abbrev pub invariant-loop-cap : goal.invariant-loop-cap
invariant-loop-cap l = l.recorder ≡ record l.recording { requests = []; caps = take l.cap-index l.recording.caps }
