use Rattle.window_recordings.proofs.LawLemmas.{cost-windows}
use Rattle.window_recordings.proofs.laws.nothing_is_lost_in_many.Goals as goal

pub returns : goal.returns
returns c = cost-windows c.args.cuts.now c.args.recording.now c.requires
