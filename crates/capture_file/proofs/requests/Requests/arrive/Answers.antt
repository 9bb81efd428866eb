use Rattle.capture_file.proofs.KnownLemmas.{below_put}
use Rattle.capture_file.proofs.TableLemmas.{apart_seen}
use Rattle.capture_file.proofs.requests.Requests.arrive.Goals as goal

pub invariant_of-self-in-Some : goal.invariant_of-self-in-Some
invariant_of-self-in-Some c =
    rw c.in_ok-replace.ensures.ok (below_put c.self.inside.next c.self.inside.table _ c.self.invariant)

pub replace-requires-clause-apart : goal.replace-requires-clause-apart
replace-requires-clause-apart c = apart_seen c.args.place _ c.args.tag c.in-Some.early c.in-Some.ensures.passes
