use Rattle.std.proofs.Common.{◌≡◌, ◌+◌, ◌∙◌, arith}
use Rattle.std.proofs.lemmas.List.{get_or_default}
use Rattle.capture.specs.Faults.{starts_in}
use Rattle.capture.proofs.FaultLemmas.{crowd_found, crowd_more, crowd_none, none_crowded}
use Rattle.capture.proofs.round_starts.check_crowds.Goals as goal

pub returns-then-starts-gt-MAX_IN_ROUND-clause-err : goal.returns-then-starts-gt-MAX_IN_ROUND-clause-err
returns-then-starts-gt-MAX_IN_ROUND-clause-err c = λ _ unit.
    let n = c.loop-before.before in
    let row = c.in_ok-row.ensures in
    let size = row.size in
    let lt = c.loop-before-test.true in
    let is : c.index-starts.result.now ≡ starts_in c.args.requests.now (n + 1) = c.index-starts.ensures ∙ get_or_default c.in_ok-row.row.items (n + 1) _ 0 (omega arith) ∙ row.each (n + 1) (omega arith) in
    crowd_found unit c.args.requests.now n c.args.last c.index-starts.result.now lt c.loop-before.invariant is c.if-starts-gt-MAX_IN_ROUND.true

pub loop-before-preserved : goal.loop-before-preserved
loop-before-preserved c =
    let n = c.loop-before.before in
    let row = c.in_ok-row.ensures in
    let size = row.size in
    let lt = c.loop-before-test.true in
    let is : c.index-starts.result.now ≡ starts_in c.args.requests.now (n + 1) = c.index-starts.ensures ∙ get_or_default c.in_ok-row.row.items (n + 1) _ 0 (omega arith) ∙ row.each (n + 1) (omega arith) in
    crowd_more c.args.requests.now n c.index-starts.result.now c.loop-before.invariant is c.if-starts-gt-MAX_IN_ROUND.false

pub returns-clause-ok : goal.returns-clause-ok
returns-clause-ok c = λ unit. crowd_none unit c.args.requests.now c.loop-before.before c.args.last (omega (arith, c.loop-before-test.false, c.loop-before.auto.before-end)) c.loop-before.invariant

pub returns-clause-crowds : goal.returns-clause-crowds
returns-clause-crowds c = none_crowded c.args.requests.now c.loop-before.before c.args.last (omega (arith, c.loop-before-test.false, c.loop-before.auto.before-end)) c.loop-before.invariant
