use Rattle.recording_file.specs.Sound.{IsSound}
use Rattle.recording_file.specs.Requests.{OutOfMemory}
use Rattle.recording_file.proofs.PlacingLemmas.{kept_request, no_cause_where_ok}
use Rattle.recording_file.proofs.applying.with_request.Goals as goal

pub returns-in-Ok-clause-sound : goal.returns-in-Ok-clause-sound
unfolding IsSound
returns-in-Ok-clause-sound c = rw c.in-Ok.ensures.ok (kept_request c.args.recorder c.args.request c.requires.kept c.requires.few (no_cause_where_ok _ OutOfMemory _ _ c.add_request.ensures.answer c.in-Ok.is) c.requires.done)
