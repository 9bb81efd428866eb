use Rattle.std.proofs.Common.{◌≡◌, ◌+◌, ◌≤◌, slice_index}
use Rattle.price_check.specs.Words.{instance_of_rows, live_of_rows, pricing_of_rows, cost, paid, offered}
use Rattle.price_check.proofs.DualityLemmas.{weak_duality, best_where_proved, proof_without_gap}
use Rattle.price_check.proofs.FaultLemmas.{faulty_not_admissible}
use Rattle.price_check.proofs.checker.check.Goals as goal

pub returns-in-Some-clause-proved : goal.returns-in-Some-clause-proved
returns-in-Some-clause-proved c = λ proof.
    absurd (faulty_not_admissible (instance_of_rows c.args.net.now) (live_of_rows c.args.net.now) (slice_index c.args.schedule.now) c.in-Some.stay c.in-Some.cause
    c.first_fault.ensures.sound c.in-Some.ensures.found proof.admissible)

pub overflow_sub-gap : goal.overflow_sub-gap
overflow_sub-gap c =
    let net = instance_of_rows c.args.net.now in
    let f = slice_index c.args.schedule.now in
    let p = pricing_of_rows c.args.prices.now in
    let le : paid net p ≤ cost net f + offered net p = weak_duality net (live_of_rows c.args.net.now) f p c.first_fault.ensures.sound c.in_default.ensures.found in
    let costs : c.in-Some-cost.cost ≡ cost net f = c.in-Some-cost.ensures.waits.1 in
    rw (c.paid.ensures.same, c.offered.ensures.same, c.from.ensures, costs) le

pub returns-then-gap-eq0-clause-means : goal.returns-then-gap-eq0-clause-means
returns-then-gap-eq0-clause-means c =
    let net = instance_of_rows c.args.net.now in
    let f = slice_index c.args.schedule.now in
    let p = pricing_of_rows c.args.prices.now in
    let costs : c.from.result ≡ cost net f = rw c.from.ensures c.in-Some-cost.ensures.waits.1 in
    proof_without_gap net (live_of_rows c.args.net.now) f p c.from.result c.offered.result c.paid.result c.first_fault.ensures.sound c.in_default.ensures.found costs c.offered.ensures.same c.paid.ensures.same c.if-gap-eq0.true

pub returns-then-gap-eq0-clause-best : goal.returns-then-gap-eq0-clause-best
returns-then-gap-eq0-clause-best c = λ _.
    let net = instance_of_rows c.args.net.now in
    let f = slice_index c.args.schedule.now in
    let p = pricing_of_rows c.args.prices.now in
    let live = live_of_rows c.args.net.now in
    let costs : c.from.result ≡ cost net f = rw c.from.ensures c.in-Some-cost.ensures.waits.1 in
    best_where_proved net live f p c.first_fault.ensures.sound
    (proof_without_gap net live f p c.from.result c.offered.result c.paid.result c.first_fault.ensures.sound c.in_default.ensures.found costs c.offered.ensures.same c.paid.ensures.same c.if-gap-eq0.true)
