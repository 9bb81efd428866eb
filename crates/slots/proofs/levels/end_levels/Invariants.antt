use Rattle.std.proofs.Common.{◌≡◌, ◌≤◌, ◌+◌, ◌-◌, ◌*◌, ◌^◌, ℕ, List, ◌++◌, length, slice_index}
use Rattle.std.specs.List.{flat_map, range_with_len}
use Rattle.slots.specs.Gaps.{spare_within}
use Rattle.slots.specs.Tallies.{IsTally}
use Rattle.slots.proofs.levels.end_levels.Given as goal

-- the spare starts of the levels so far are added
abbrev pub invariant-loop-level : goal.invariant-loop-level
invariant-loop-level l = record {
  still : l.to ≤ l.from → l.level ≡ l.from;
  size : length l.tally.row.items ≡ length l.initial.tally.row.items;
  total : l.tally.total + (l.to - l.level) * 2 ^ 64 ≤ 2 ^ 128;
  tally : (times : List ℕ) → IsTally l.clock times l.initial.tally.row.items l.initial.tally.total → IsTally l.clock (times ++ flat_map (λ k. spare_within l.clock.service (slice_index l.begun k) l.at) (range_with_len l.from (l.level - l.from))) l.tally.row.items l.tally.total;
}
