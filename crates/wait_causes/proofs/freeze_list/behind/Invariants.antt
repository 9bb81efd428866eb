use Rattle.std.proofs.Common.{◌≡◌, ◌-◌, find, not}
use Rattle.std.specs.List.{range_with_len}
use Rattle.wait_causes.specs.Words.{flag_in, round}
use Rattle.wait_causes.proofs.freeze_list.behind.Given as goal

-- what is left has the same answer
abbrev pub invariant-loop-round : goal.invariant-loop-round
invariant-loop-round l =
    find (λ r. not (flag_in l.kind l.table.config l.table.events l.number r)) (range_with_len l.round (round l.table.events - l.round))
    ≡ find (λ r. not (flag_in l.kind l.table.config l.table.events l.number r)) (range_with_len l.first (round l.table.events - l.first))
