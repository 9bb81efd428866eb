use Rattle.capture_file.proofs.LawLemmas.{arrivals_kept}
use Rattle.capture_file.proofs.laws.arrivals_stay.Goals as goal

pub returns : goal.returns
returns c = λ event. arrivals_kept event c.args.requests.now c.get-first.ensures.rising
