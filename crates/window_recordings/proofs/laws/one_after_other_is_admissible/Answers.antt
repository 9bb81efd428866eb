use Rattle.window_recordings.proofs.LawLemmas.{both_admissible, both_cost}
use Rattle.window_recordings.proofs.laws.one_after_other_is_admissible.Goals as goal

pub returns-clause-admissible : goal.returns-clause-admissible
returns-clause-admissible c = λ f g one two. both_admissible c.args.round c.args.recording.now f g c.requires one two

pub returns-clause-cost : goal.returns-clause-cost
returns-clause-cost c = λ f g one two. both_cost c.args.round c.args.recording.now f g c.requires two
