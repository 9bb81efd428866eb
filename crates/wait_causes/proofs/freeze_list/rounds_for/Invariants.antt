use Rattle.std.proofs.Common.{◌≡◌, ◌+◌, ◌-◌, ◌≤◌, count_by}
use Rattle.std.specs.List.{range_with_len}
use Rattle.round_net.specs.Ends.{cause_in}
use Rattle.wait_causes.specs.Freezes.{waits_for}
use Rattle.wait_causes.proofs.freeze_list.rounds_for.Given as goal

-- the rounds so far and those left are all
abbrev pub invariant-loop-round : goal.invariant-loop-round
invariant-loop-round l = record {
  left : l.rounds + count_by (waits_for (cause_in l.table.config l.table.events) l.cause l.stay) (range_with_len l.round (l.end - l.round))
      ≡ count_by (waits_for (cause_in l.table.config l.table.events) l.cause l.stay) (range_with_len l.first (l.end - l.first));
  small : l.rounds ≤ l.round;
}
