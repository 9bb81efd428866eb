use Rattle.std.proofs.Common.{◌≡◌, filter}
use Rattle.std.specs.List.{range_with_len}
use Rattle.round_net.specs.Rows.{instance_of_rows}
use Rattle.what_if.specs.Below.{is_below}
use Rattle.what_if.proofs.below.rows_below.Given as goal

-- of the rows so far
abbrev pub invariant-loop-part : goal.invariant-loop-part
invariant-loop-part l = l.below.items ≡ filter (is_below (instance_of_rows l.net) l.row) (range_with_len 0 l.part)
