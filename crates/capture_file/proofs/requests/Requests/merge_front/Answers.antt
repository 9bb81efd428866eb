use Rattle.capture_file.proofs.KnownLemmas.{below_put, below_without}
use Rattle.capture_file.proofs.requests.Requests.merge_front.Goals as goal

pub invariant_of-self-in-Some-merged : goal.invariant_of-self-in-Some-merged
invariant_of-self-in-Some-merged c =
    rw (c.remove.ensures, c.in_ok-replace.ensures.ok) (below_without c.self.inside.next _ _ (below_put c.self.inside.next c.self.inside.table _ c.self.invariant))

pub invariant_of-self-in_default-merged : goal.invariant_of-self-in_default-merged
invariant_of-self-in_default-merged c =
    rw c.in_ok-replace.ensures.ok (below_put c.self.inside.next c.self.inside.table _ c.self.invariant)
