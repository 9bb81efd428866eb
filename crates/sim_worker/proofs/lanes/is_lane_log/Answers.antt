use Rattle.std.proofs.Common.{◌≡◌, ◌∙◌, ◌+◌, ◌*◌, ◌/◌, length, Some, sym, ap, subst, arith, slice_get}
use Rattle.sim_worker.specs.Logs.{IsLaneLog}
use Rattle.sim_worker.proofs.RunListFacts.{get_is}
use Rattle.sim_worker.proofs.LaneLemmas.{even_length, half_log, log_half, log_length, log_pairs, odd_length, whole_log}
use Rattle.sim_worker.proofs.lanes.is_lane_log.Goals as goal

pub returns-then-not-is_length-clause-no : goal.returns-then-not-is_length-clause-no
returns-then-not-is_length-clause-no c = λ _ h. c.is_length.ensures.no c.if-not-is_length.true (log_length c.args.lane c.args.full c.args.log.now c.args.served.now h)

pub returns-then-not-are_pairs-clause-no : goal.returns-then-not-are_pairs-clause-no
returns-then-not-are_pairs-clause-no c = λ _ h. c.are_pairs.ensures.no c.if-not-are_pairs.true (log_pairs c.args.lane c.args.full c.args.log.now c.args.served.now _ h)

pub returns-then-log-eq0-clause-yes : goal.returns-then-log-eq0-clause-yes
returns-then-log-eq0-clause-yes c = λ _.
    let n = length c.args.log.now / 2 in
    let items : length c.args.served.now ≡ n = even_length c.args.full _ _ (c.is_length.ensures.yes c.if-not-is_length.false) c.if-log-eq0.true in
    whole_log c.args.lane c.args.full n c.args.log.now c.args.served.now (omega (arith, c.if-log-eq0.true)) items (c.are_pairs.ensures.yes c.if-not-are_pairs.false)

pub returns-clause-yes : goal.returns-clause-yes
returns-clause-yes c = λ sent.
    let log = c.args.log.now in
    let served = c.args.served.now in
    let n = length log / 2 in
    let half = odd_length c.args.full (length log) (length served) (c.is_length.ensures.yes c.if-not-is_length.false) c.if-log-eq0.false in
    let odd : length log ≡ 2 * n + 1 = omega (arith, c.if-log-eq0.false) in
    let twice : 2 * n ≡ n * 2 = omega arith in
    let items : length served ≡ n + 1 = half.1 in
    let at_a : slice_get log (n * 2) ≡ Some c.index-log-pairs.result = ap (slice_get log) (sym twice) ∙ get_is log (2 * n) c.index-log-pairs.result (omega (arith, odd)) c.index-log-pairs.is in
    let at_one = get_is served n c.index-served-pairs.result (omega (arith, items)) c.index-served-pairs.is in
    subst (λ b. IsLaneLog c.args.lane b log served) (sym half.0)
    (half_log c.args.lane n log served c.index-log-pairs.result c.index-served-pairs.result at_a at_one (omega (arith, odd)) (omega (arith, items)) (c.is_sent.ensures.yes sent) (c.are_pairs.ensures.yes c.if-not-are_pairs.false))

pub returns-clause-no : goal.returns-clause-no
returns-clause-no c = λ other h.
    let log = c.args.log.now in
    let served = c.args.served.now in
    let n = length log / 2 in
    let half = odd_length c.args.full (length log) (length served) (c.is_length.ensures.yes c.if-not-is_length.false) c.if-log-eq0.false in
    let odd : length log ≡ 2 * n + 1 = omega (arith, c.if-log-eq0.false) in
    let twice : 2 * n ≡ n * 2 = omega arith in
    let at_a = get_is log (2 * n) c.index-log-pairs.result (omega (arith, odd)) c.index-log-pairs.is in
    let at_one = get_is served n c.index-served-pairs.result (omega (arith, half.1)) c.index-served-pairs.is in
    c.is_sent.ensures.no other (log_half c.args.lane c.args.full log served n (2 * n) c.index-log-pairs.result c.index-served-pairs.result h twice at_a at_one)
