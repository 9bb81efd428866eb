use Rattle.xpt_carry.specs.Carry.{adjust_of}
use Rattle.xpt_carry.proofs.EventLemmas.{range_more}
use Rattle.xpt_carry.proofs.events.add_adjusts.Goals as goal

pub loop-device-preserved : goal.loop-device-preserved
loop-device-preserved c =
    range_more (adjust_of c.args.state.now.config c.args.state.now.events) c.args.events.now.items c.loop-device.events.items c.add.new.events.items c.loop-device.device c.adjust_of.result
    c.loop-device.invariant c.adjust_of.ensures c.in_ok-add.ensures
