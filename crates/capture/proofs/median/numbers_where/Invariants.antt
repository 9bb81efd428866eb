use Rattle.std.proofs.Common.{◌≡◌, ◌-◌, map, filter, nat_lt, slice_index}
use Rattle.std.specs.List.{range_with_len}
use Rattle.capture.proofs.median.numbers_where.Given as goal

-- the numbers so far
abbrev pub invariant-loop-round : goal.invariant-loop-round
invariant-loop-round l = l.numbers.items ≡ map (slice_index l.row) (filter (λ round. nat_lt 0 (slice_index l.tests round)) (range_with_len 1 (l.round - 1)))
