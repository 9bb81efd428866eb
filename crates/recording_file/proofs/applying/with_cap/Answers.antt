use Rattle.recording_file.specs.Sound.{IsSound}
use Rattle.recording_file.proofs.PlacingLemmas.{kept_cap}
use Rattle.recording_file.proofs.applying.with_cap.Goals as goal

pub returns-in-Ok-clause-sound : goal.returns-in-Ok-clause-sound
unfolding IsSound
returns-in-Ok-clause-sound c = rw c.in-Ok.ensures.ok (kept_cap c.args.recorder c.args.cap c.requires.kept c.requires.next c.requires.first)
