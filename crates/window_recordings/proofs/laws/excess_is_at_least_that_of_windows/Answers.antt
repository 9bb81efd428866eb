use Rattle.window_recordings.proofs.LawLemmas.{excess-parts}
use Rattle.window_recordings.proofs.laws.excess_is_at_least_that_of_windows.Goals as goal

pub returns : goal.returns
returns c = λ excess first second whole one two. excess-parts c.args.round c.args.recording.now excess first second c.requires c.rounds-rounds.ensures.kept whole one two
