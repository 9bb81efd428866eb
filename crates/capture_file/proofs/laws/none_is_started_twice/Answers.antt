use Rattle.capture_file.proofs.LawLemmas.{starts_kept}
use Rattle.capture_file.proofs.laws.none_is_started_twice.Goals as goal

pub returns : goal.returns
returns c = λ event. starts_kept event c.args.requests.now c.get-first.ensures.rising
