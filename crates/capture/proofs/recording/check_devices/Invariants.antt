use Rattle.std.proofs.Common.{◌≡◌, take, None, not, find}
use Rattle.cam_types.specs.Questions.{names_device}
use Rattle.recording_file.specs.declared.request.Request.{Request}
use Rattle.capture.proofs.recording.check_devices.Given as goal

-- the devices so far are there
abbrev pub invariant-loop-request : goal.invariant-loop-request
invariant-loop-request l = find (λ (q : Request). not (names_device l.config q.device)) (take l.request-index l.requests) ≡ None
