use Rattle.std.proofs.Common.{◌≡◌, flat_map}
use Rattle.std.specs.List.{range_with_len}
use Rattle.wait_causes.specs.Tables.{row_of}
use Rattle.wait_causes.proofs.table.table_of.Given as goal

abbrev pub invariant-loop-number : goal.invariant-loop-number
invariant-loop-number l = l.rows.items ≡ flat_map (row_of l.fn.known l.fn.by l.stays) (range_with_len 0 l.number)
