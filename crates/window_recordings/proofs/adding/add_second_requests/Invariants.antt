use Rattle.std.proofs.Common.{◌≡◌, ◌-◌, take}
use Rattle.window_recordings.specs.Windows.{second_caps, second_requests}
use Rattle.window_recordings.proofs.adding.add_second_requests.Given as goal

abbrev pub invariant-loop-request : goal.invariant-loop-request
invariant-loop-request l = l.recorder ≡ record l.recording { rounds = l.recording.rounds - l.round; caps = second_caps l.round l.recording.caps; requests = second_requests l.round (take l.request-index l.recording.requests) }
