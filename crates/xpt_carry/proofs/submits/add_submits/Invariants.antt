use Rattle.std.proofs.Common.{◌≡◌, ◌++◌, take, filter_map}
use Rattle.xpt_carry.specs.Carry.{submit_of}
use Rattle.xpt_carry.proofs.submits.add_submits.Given as goal

-- the submits of the stays so far
abbrev pub invariant-loop-stay : goal.invariant-loop-stay
invariant-loop-stay l = l.events.items ≡ l.fn.events.items ++ filter_map (submit_of l.state.events) (take l.stay-index l.stays)
