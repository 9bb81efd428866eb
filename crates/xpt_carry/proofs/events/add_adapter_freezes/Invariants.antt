use Rattle.std.proofs.Common.{◌≡◌, ◌++◌, filter_map}
use Rattle.std.specs.List.{range_with_len}
use Rattle.xpt_carry.specs.Carry.{adapter_freeze}
use Rattle.xpt_carry.proofs.events.add_adapter_freezes.Given as goal

-- the events of the numbers so far
abbrev pub invariant-loop-adapter : goal.invariant-loop-adapter
invariant-loop-adapter l = l.events.items ≡ l.fn.events.items ++ filter_map (adapter_freeze l.state.events) (range_with_len 0 l.adapter)
