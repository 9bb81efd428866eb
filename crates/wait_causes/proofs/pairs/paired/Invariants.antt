use Rattle.std.proofs.Common.{◌≡◌, flat_map}
use Rattle.std.specs.List.{range_with_len}
use Rattle.wait_causes.specs.Keys.{is_pair}
use Rattle.wait_causes.specs.Pairs.{pairs_at}
use Rattle.wait_causes.proofs.pairs.paired.Given as goal

abbrev pub invariant-loop-number : goal.invariant-loop-number
invariant-loop-number l = l.rows.items ≡ flat_map (pairs_at (is_pair l.by l.names_before l.names_after) l.before l.after) (range_with_len 0 l.number)
