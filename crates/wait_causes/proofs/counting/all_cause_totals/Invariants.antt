use Rattle.std.proofs.Common.{◌≡◌, map, Vec}
use Rattle.std.specs.Global.{Global}
use Rattle.std.specs.List.{range_with_len}
use Rattle.wait_causes.specs.Counting.{causes_before}
use Rattle.wait_causes.specs.declared.explained_stay.CauseRounds.{CauseRounds}
use Rattle.wait_causes.proofs.counting.all_cause_totals.Given as goal

abbrev pub invariant-loop-device : goal.invariant-loop-device
invariant-loop-device l = map (λ (v : Vec CauseRounds Global). v.items) l.totals.items ≡ map (causes_before l.origin) (range_with_len 0 l.device)
