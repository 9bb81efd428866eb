use Rattle.xpt_carry.specs.Carry.{device_freeze}
use Rattle.xpt_carry.proofs.EventLemmas.{range_more}
use Rattle.xpt_carry.proofs.events.add_device_freezes.Goals as goal

pub loop-device-preserved : goal.loop-device-preserved
loop-device-preserved c =
    range_more (device_freeze c.args.state.now.events) c.args.events.now.items c.loop-device.events.items c.add.new.events.items c.loop-device.device c.device_freeze.result
    c.loop-device.invariant c.device_freeze.ensures c.in_ok-add.ensures
