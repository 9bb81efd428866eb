use Rattle.std.proofs.Common.{◌≡◌, ◌++◌, map}
use Rattle.std.specs.List.{range_with_len}
use Rattle.round_net.specs.Ends.{is_frozen_at}
use Rattle.round_net.proofs.round_ends.push_flags.Given as goal

abbrev pub invariant-loop-number : goal.invariant-loop-number
invariant-loop-number l = l.flags.items ≡ l.fn.flags.items ++ map (is_frozen_at l.kind l.replay.events) (range_with_len 0 l.number)
