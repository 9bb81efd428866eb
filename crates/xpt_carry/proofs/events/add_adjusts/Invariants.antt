use Rattle.std.proofs.Common.{◌≡◌, ◌++◌, filter_map}
use Rattle.std.specs.List.{range_with_len}
use Rattle.xpt_carry.specs.Carry.{adjust_of}
use Rattle.xpt_carry.proofs.events.add_adjusts.Given as goal

-- the events of the numbers so far
abbrev pub invariant-loop-device : goal.invariant-loop-device
invariant-loop-device l = l.events.items ≡ l.fn.events.items ++ filter_map (adjust_of l.state.config l.state.events) (range_with_len 0 l.device)
