use Rattle.capture_file.proofs.KnownLemmas.{below_put}
use Rattle.capture_file.proofs.TableLemmas.{apart_started}
use Rattle.capture_file.proofs.LawLemmas.{waits}
use Rattle.capture_file.specs.Attempts.{is_same_place}
use Rattle.capture_file.proofs.requests.Requests.start.Goals as goal

pub invariant_of-self-2 : goal.invariant_of-self-2
invariant_of-self-2 c =
    rw c.in_ok-replace.ensures.ok (below_put c.self.inside.next c.self.inside.table _ c.self.invariant)

pub replace-requires-clause-apart : goal.replace-requires-clause-apart
replace-requires-clause-apart c =
    let a = c.in-Some.before in
    apart_started c.args.sent c.args.time a (waits a.state (is_same_place a.place c.args.place) c.in-Some.ensures.passes)
