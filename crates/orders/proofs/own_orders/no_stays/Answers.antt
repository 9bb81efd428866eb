use Rattle.std.proofs.Common.{◌≡◌, arith}
use Rattle.orders.proofs.OwnLemmas.{AreNone-more}
use Rattle.orders.proofs.own_orders.no_stays.Goals as goal

pub loop-device-preserved : goal.loop-device-preserved
loop-device-preserved c = rw c.in_ok-push.ensures.items (AreNone-more c.loop-device._device c.loop-device.lists.items c.new.result c.loop-device.invariant c.new.ensures.items)

pub returns : goal.returns
returns c =
    let all : c.loop-device._device ≡ c.args.devices = omega (arith, c.loop-device-test.false, c.loop-device.auto._device-end) in
    rw all at c.loop-device.invariant
