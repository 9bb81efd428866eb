use Rattle.xpt_carry.specs.Carry.{adapter_freeze}
use Rattle.xpt_carry.proofs.EventLemmas.{range_more}
use Rattle.xpt_carry.proofs.events.add_adapter_freezes.Goals as goal

pub loop-adapter-preserved : goal.loop-adapter-preserved
loop-adapter-preserved c =
    range_more (adapter_freeze c.args.state.now.events) c.args.events.now.items c.loop-adapter.events.items c.add.new.events.items c.loop-adapter.adapter c.adapter_freeze.result
    c.loop-adapter.invariant c.adapter_freeze.ensures c.in_ok-add.ensures
