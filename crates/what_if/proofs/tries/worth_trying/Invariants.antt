use Rattle.std.proofs.Common.{◌≡◌}
use Rattle.std.specs.List.{flat_map, range_with_len}
use Rattle.round_net.specs.Rows.{instance_of_rows, live_of_rows}
use Rattle.what_if.specs.Tries.{tries_of}
use Rattle.what_if.proofs.tries.worth_trying.Given as goal

-- of the rows so far
abbrev pub invariant-loop-row : goal.invariant-loop-row
invariant-loop-row l = l.tries.items ≡ flat_map (tries_of (instance_of_rows l.net) (live_of_rows l.net)) (range_with_len 0 l.row)
