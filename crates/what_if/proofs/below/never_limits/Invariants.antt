use Rattle.std.proofs.Common.{◌≡◌, true}
use Rattle.std.specs.List.{list_all, range_with_len}
use Rattle.round_net.specs.Rows.{instance_of_rows}
use Rattle.what_if.specs.Below.{is_enough}
use Rattle.what_if.proofs.below.never_limits.Given as goal

-- in the rounds so far it does
abbrev pub invariant-loop-before : goal.invariant-loop-before
invariant-loop-before l = list_all (is_enough (instance_of_rows l.net) l.below l.row) (range_with_len 1 l.before) ≡ true
