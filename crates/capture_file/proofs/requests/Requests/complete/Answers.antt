use Rattle.capture_file.proofs.KnownLemmas.{below_put}
use Rattle.capture_file.proofs.requests.Requests.complete.Goals as goal

pub invariant_of-self : goal.invariant_of-self
invariant_of-self c = rw c.end.ensures (below_put c.self.inside.next c.self.inside.table _ c.self.invariant)
