use Rattle.std.proofs.Common.{ℕ, arith}
use Rattle.round_net.specs.Rows.{instance_of_rows}
use Rattle.orders.proofs.OwnLemmas.{AreOwnSoFar-more, AreOwnOrders-all}
use Rattle.orders.proofs.own_orders.own_orders.Goals as goal

pub loop-stay-preserved : goal.loop-stay-preserved
loop-stay-preserved c =
    let net = instance_of_rows c.args.net.now in
    let place : ℕ = c.loop-stay.stay-index in
    let within = c.requires.within place (omega (arith, c.requires.long, c.loop-stay-test.true)) in
    AreOwnSoFar-more net c.args.order.now place c.device.result c.loop-stay.lists.items c.index_mut.result.now c.push.new.self c.requires c.loop-stay-test.true c.device.ensures.same (omega (arith, c.device.ensures.within)) c.index_mut.ensures.value c.in_ok-push.ensures.items c.loop-stay.invariant

pub returns : goal.returns
returns c =
    let net = instance_of_rows c.args.net.now in
    AreOwnOrders-all net c.args.order.now c.loop-stay.stay-index c.loop-stay.lists.items c.requires (omega (arith, c.requires.long, c.loop-stay-test.false, c.loop-stay.auto)) c.loop-stay.invariant
