use Rattle.capture_file.proofs.KnownLemmas.{below_without}
use Rattle.capture_file.proofs.requests.Requests.forget.Goals as goal

pub invariant_of-self : goal.invariant_of-self
invariant_of-self c = rw c.remove.ensures (below_without c.self.inside.next c.self.inside.table _ c.self.invariant)
