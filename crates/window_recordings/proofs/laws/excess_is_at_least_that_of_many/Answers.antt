use Rattle.window_recordings.proofs.LawLemmas.{excess-windows}
use Rattle.window_recordings.proofs.laws.excess_is_at_least_that_of_many.Goals as goal

pub returns : goal.returns
returns c = λ excess excesses whole is. excess-windows c.args.cuts.now c.args.recording.now excess excesses c.requires c.rounds-rounds.ensures.kept whole is
