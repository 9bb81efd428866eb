use Rattle.recording_file.specs.Sound.{IsSound}
use Rattle.recording_file.proofs.PlacingLemmas.{kept_name}
use Rattle.recording_file.proofs.applying.with_name.Goals as goal

pub returns-in-Ok-clause-sound : goal.returns-in-Ok-clause-sound
unfolding IsSound
returns-in-Ok-clause-sound c = rw c.in-Ok.ensures.ok (kept_name c.args.recorder c.args.name c.requires.kept c.requires.next)
