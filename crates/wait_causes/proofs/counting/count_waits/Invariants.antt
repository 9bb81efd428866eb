use Rattle.std.proofs.Common.{◌≡◌, map, take}
use Rattle.wait_causes.specs.Counting.{AreBehindTotals}
use Rattle.wait_causes.specs.Stays.{counted}
use Rattle.wait_causes.proofs.counting.count_waits.Given as goal

abbrev pub invariant-loop-stay : goal.invariant-loop-stay
invariant-loop-stay l = record {
  rows : l.rows.items ≡ map (counted l.origin) (take l.stay-index l.stays);
  kept : AreBehindTotals l.origin l.behinds.items;
}
