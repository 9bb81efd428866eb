use Rattle.window_recordings.proofs.LawLemmas.{cost-parts}
use Rattle.window_recordings.proofs.laws.nothing_is_lost.Goals as goal

pub returns : goal.returns
returns c = cost-parts c.args.round c.args.recording.now c.requires
