use Rattle.capture_file.proofs.LawLemmas.{ids_after}
use Rattle.capture_file.proofs.laws.nothing_is_lost.Goals as goal

pub returns : goal.returns
returns c = λ event. ids_after event c.args.requests.now
