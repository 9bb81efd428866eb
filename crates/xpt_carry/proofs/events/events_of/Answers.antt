use Rattle.xpt_carry.proofs.EventLemmas.{all_parts}
use Rattle.xpt_carry.proofs.RowLemmas.{carried_alive}
use Rattle.xpt_carry.proofs.events.events_of.Goals as goal

pub add_submits-requires : goal.add_submits-requires
add_submits-requires c = rw c.requires (carried_alive c.args.state.now.rules c.args.state.now.config c.args.state.now.events c.events-events.ensures.legal)

pub returns : goal.returns
returns c =
    all_parts c.args.state.now.config c.args.state.now.events c.new-events.result.items c.add_openings.new.events.items c.add_device_freezes.new.events.items
    c.add_adapter_freezes.new.events.items c.add_submits.new.events.items c.args.stays.now
    c.new-events.ensures.items c.in_ok-add_openings.ensures c.in_ok-add_device_freezes.ensures c.in_ok-add_adapter_freezes.ensures c.in_ok-add_submits.ensures c.requires
