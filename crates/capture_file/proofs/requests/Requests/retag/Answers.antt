use Rattle.capture_file.specs.Attempts.{with_id}
use Rattle.capture_file.proofs.KnownLemmas.{below_retag}
use Rattle.capture_file.proofs.requests.Requests.retag.Goals as goal

pub invariant_of-self : goal.invariant_of-self
invariant_of-self c = rw c.retag.ensures (below_retag c.self.inside.next c.self.inside.table c.args.tag (with_id c.args.id c.self.inside.table) c.self.invariant)
