use Rattle.std.proofs.Common.{◌≡◌, ◌++◌, map}
use Rattle.std.specs.List.{range_with_len}
use Rattle.round_net.specs.Ends.{cause_at}
use Rattle.round_net.proofs.round_ends.push_causes.Given as goal

abbrev pub invariant-loop-device : goal.invariant-loop-device
invariant-loop-device l = l.causes.items ≡ l.fn.causes.items ++ map (cause_at l.replay.config l.replay.events) (range_with_len 0 l.device)
