use Rattle.std.proofs.Common.{◌≡◌, ◌-◌, ◌++◌, map, filter}
use Rattle.std.specs.List.{range_with_len}
use Rattle.wait_causes.specs.Words.{cause_in, flag_in, round}
use Rattle.wait_causes.specs.Freezes.{begins, freeze_from}
use Rattle.wait_causes.proofs.freeze_list.push_number.Given as goal

-- the freezes so far and those left are all
abbrev pub invariant-loop-round : goal.invariant-loop-round
invariant-loop-round l =
    l.freezes.items ++ map (freeze_from l.kind l.number (flag_in l.kind l.table.config l.table.events l.number) (round l.table.events) (cause_in l.table.config l.table.events) l.there)
    (filter (begins (flag_in l.kind l.table.config l.table.events l.number)) (range_with_len l.round (round l.table.events - l.round)))
    ≡ l.fn.freezes.items ++ map (freeze_from l.kind l.number (flag_in l.kind l.table.config l.table.events l.number) (round l.table.events) (cause_in l.table.config l.table.events) l.there)
    (filter (begins (flag_in l.kind l.table.config l.table.events l.number)) (range_with_len 1 (round l.table.events - 1)))
