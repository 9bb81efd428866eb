use Rattle.std.proofs.Common.{◌≡◌, map}
use Rattle.std.specs.List.{range_with_len}
use Rattle.round_net.specs.Rows.{instance_of_rows}
use Rattle.orders.specs.Keys.{key_of}
use Rattle.orders.proofs.key.keys_of.Given as goal

abbrev pub invariant-loop-stay : goal.invariant-loop-stay
invariant-loop-stay l = l.keys.items ≡ map (key_of l.order (instance_of_rows l.net)) (range_with_len 0 l.stay)
