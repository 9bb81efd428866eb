use Rattle.std.proofs.Common.{◌≡◌, ◌∙◌, ◌+◌, ◌*◌, ◌<◌, take, Some, ap, sym, subst, arith, slice_get}
use Rattle.sim_worker.specs.Walks.{ArePairs, IsDone}
use Rattle.sim_worker.proofs.RunListFacts.{get_is, get_there, some_is}
use Rattle.sim_worker.proofs.LaneLemmas.{pairs_more, no_pairs}
use Rattle.sim_worker.proofs.lanes.are_pairs.Goals as goal

pub loop-k-init : goal.loop-k-init
loop-k-init c = no_pairs c.args.lane

pub loop-k-preserved : goal.loop-k-preserved
loop-k-preserved c =
    let k = c.loop-k.k in
    let log = c.args.log.now in
    let served = c.args.served.now in
    let twice : 2 * k ≡ k * 2 = omega arith in
    let less : k < c.args.count = c.loop-k-test.true in
    let at_a : slice_get log (k * 2) ≡ Some c.index-log-k.result = ap (slice_get log) (sym twice) ∙ get_is log (2 * k) c.index-log-k.result (omega (arith, less, c.requires.log)) c.index-log-k.is in
    let at_b : slice_get log (k * 2 + 1) ≡ Some c.index-log-k-in-loop-k.result =
    ap (λ n. slice_get log (n + 1)) (sym twice) ∙ get_is log (2 * k + 1) c.index-log-k-in-loop-k.result (omega (arith, less, c.requires.log)) c.index-log-k-in-loop-k.is in
    let at_one = get_is served k c.index-served-k.result (omega (arith, less, c.requires.served)) c.index-served-k.is in
    let other = get_is served k c.index-served-k-in-loop-k.result (omega (arith, less, c.requires.served)) c.index-served-k-in-loop-k.is in
    let same = some_is c.index-served-k-in-loop-k.result c.index-served-k.result (sym other ∙ at_one) in
    pairs_more c.args.lane log served k _ _ _ at_a at_b at_one (c.is_sent.ensures.yes c.if-not-is_sent.false) (subst (IsDone c.index-log-k-in-loop-k.result) same (c.is_done.ensures.yes c.if-not-is_done.false)) c.loop-k.invariant

pub returns-then-not-is_sent-clause-no : goal.returns-then-not-is_sent-clause-no
returns-then-not-is_sent-clause-no c = λ _ each.
    let k = c.loop-k.k in
    let log = c.args.log.now in
    let served = c.args.served.now in
    let twice : 2 * k ≡ k * 2 = omega arith in
    let less : k < c.args.count = c.loop-k-test.true in
    let at_a : slice_get log (k * 2) ≡ Some c.index-log-k.result = ap (slice_get log) (sym twice) ∙ get_is log (2 * k) c.index-log-k.result (omega (arith, less, c.requires.log)) c.index-log-k.is in
    let b = get_there log (k * 2 + 1) (omega (arith, less, c.requires.log)) in
    let at_one = get_is served k c.index-served-k.result (omega (arith, less, c.requires.served)) c.index-served-k.is in
    c.is_sent.ensures.no c.if-not-is_sent.true (each k c.index-log-k.result b.0 c.index-served-k.result less at_a b.1 at_one).0

pub returns-then-not-is_done-clause-no : goal.returns-then-not-is_done-clause-no
returns-then-not-is_done-clause-no c = λ _ each.
    let k = c.loop-k.k in
    let log = c.args.log.now in
    let served = c.args.served.now in
    let twice : 2 * k ≡ k * 2 = omega arith in
    let less : k < c.args.count = c.loop-k-test.true in
    let at_a : slice_get log (k * 2) ≡ Some c.index-log-k.result = ap (slice_get log) (sym twice) ∙ get_is log (2 * k) c.index-log-k.result (omega (arith, less, c.requires.log)) c.index-log-k.is in
    let at_b : slice_get log (k * 2 + 1) ≡ Some c.index-log-k-in-loop-k.result =
    ap (λ n. slice_get log (n + 1)) (sym twice) ∙ get_is log (2 * k + 1) c.index-log-k-in-loop-k.result (omega (arith, less, c.requires.log)) c.index-log-k-in-loop-k.is in
    let other = get_is served k c.index-served-k-in-loop-k.result (omega (arith, less, c.requires.served)) c.index-served-k-in-loop-k.is in
    c.is_done.ensures.no c.if-not-is_done.true (each k c.index-log-k.result c.index-log-k-in-loop-k.result c.index-served-k-in-loop-k.result less at_a at_b other).1

pub returns-clause-yes : goal.returns-clause-yes
returns-clause-yes c = λ _. let end : c.loop-k.k ≡ c.args.count = omega (arith, c.loop-k-test.false, c.loop-k.auto.k-end) in subst (λ n. ArePairs c.args.lane (take (n * 2) c.args.log.now) (take n c.args.served.now)) end c.loop-k.invariant
