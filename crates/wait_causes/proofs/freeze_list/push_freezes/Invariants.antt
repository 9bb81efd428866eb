use Rattle.std.proofs.Common.{◌≡◌, ◌++◌, flat_map}
use Rattle.std.specs.List.{range_with_len}
use Rattle.wait_causes.specs.Words.{cause_in, flag_in, round}
use Rattle.wait_causes.specs.Freezes.{freezes_at, grouping_of}
use Rattle.wait_causes.specs.Tables.{stays_of}
use Rattle.wait_causes.proofs.freeze_list.push_freezes.Given as goal

abbrev pub invariant-loop-number : goal.invariant-loop-number
invariant-loop-number l =
    l.freezes.items ≡ l.fn.freezes.items ++ flat_map (λ n. freezes_at l.kind n (flag_in l.kind l.table.config l.table.events n) (round l.table.events) (cause_in l.table.config l.table.events) (stays_of (grouping_of l.kind) l.stays n)) (range_with_len 0 l.number)
