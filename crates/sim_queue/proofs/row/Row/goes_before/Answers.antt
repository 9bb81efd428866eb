use Rattle.std.proofs.Common.{is_some, unwrap_or, ap, arith}
use Rattle.sim_queue.proofs.EntryLemmas.{goes_before-key}
use Rattle.sim_queue.proofs.row.Row.goes_before.Goals as goal

pub returns-in-Some-Some : goal.returns-in-Some-Some
returns-in-Some-Some c =
    let mine = ap (λ o. unwrap_or o 0) c.in-Some-Some.is-0 in
    let theirs = ap (λ o. unwrap_or o 0) c.in-Some-Some.is-1 in
    goes_before-key c.args.self.now c.args.other.now c.key.result c.key-in-Some-Some.result (ap is_some c.in-Some-Some.is-0) (ap is_some c.in-Some-Some.is-1)
    (omega (arith, c.key.ensures, mine)) (omega (arith, c.key-in-Some-Some.ensures, theirs)) (omega arith) (omega arith) (omega arith) (omega arith)
