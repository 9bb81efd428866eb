use Rattle.std.proofs.Common.{◌≡◌, take}
use Rattle.window_recordings.specs.Windows.{first_caps, first_requests}
use Rattle.window_recordings.proofs.adding.add_first_requests.Given as goal

abbrev pub invariant-loop-request : goal.invariant-loop-request
invariant-loop-request l = l.recorder ≡ record l.recording { rounds = l.round; caps = first_caps l.round l.recording.caps; requests = first_requests l.round (take l.request-index l.recording.requests) }
