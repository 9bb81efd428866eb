use Rattle.std.proofs.Common.{◌≡◌, ℕ, length, slice_index, subst, refl, arith}
use Rattle.round_net.specs.Rows.{instance_of_rows}
use Rattle.orders.proofs.FirstLemmas.{AreFound, AreFound-own, AreFirsts-done}
use Rattle.orders.proofs.first_waiting.first_waiting.Goals as goal

pub loop-stay-preserved : goal.loop-stay-preserved
loop-stay-preserved c =
    let net = instance_of_rows c.args.net.now in
    let f = slice_index c.args.schedule.now in
    let place : ℕ = c.loop-stay.stay-index in
    let stay : ℕ = slice_index c.args.own.now place in
    AreFound-own net f c.args.device c.args.own.now place c.loop-stay.firsts.items c.take.new.firsts.items c.loop-stay.next.items c.take.new.next.items c.arrival-from.result c.round-to.result stay c.requires.own c.loop-stay-test.true refl c.arrival-from.ensures.same c.round-to.ensures c.loop-stay.invariant c.take.ensures.skips c.take.ensures.takes

pub returns-clause-each : goal.returns-clause-each
returns-clause-each c =
    let net = instance_of_rows c.args.net.now in
    let f = slice_index c.args.schedule.now in
    let place : c.loop-stay.stay-index ≡ length c.args.own.now = omega (arith, c.loop-stay-test.false, c.loop-stay.auto) in
    AreFirsts-done net f c.args.device c.args.own.now c.loop-stay.firsts.items c.loop-stay.next.items c.requires.own (subst (λ (k : ℕ). AreFound net f c.args.device c.args.own.now k c.loop-stay.firsts.items c.loop-stay.next.items) place c.loop-stay.invariant)
