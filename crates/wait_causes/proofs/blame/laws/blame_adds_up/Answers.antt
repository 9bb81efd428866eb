use Rattle.wait_causes.proofs.BlameLawLemmas.{blame-adds_up}
use Rattle.wait_causes.proofs.blame.laws.blame_adds_up.Goals as goal

pub returns : goal.returns
returns c = blame-adds_up
