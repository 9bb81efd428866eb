use Rattle.std.proofs.Common.{◌≡◌, map}
use Rattle.std.specs.List.{range_with_len}
use Rattle.wait_causes.specs.Origins.{cause_of}
use Rattle.wait_causes.specs.Stays.{rounds_by}
use Rattle.wait_causes.specs.Totals.{totals_by}
use Rattle.wait_causes.proofs.totals.cause_totals.Given as goal

abbrev pub invariant-loop-before : goal.invariant-loop-before
invariant-loop-before l = record {
  totals : l.totals.items ≡ totals_by rounds_by (cause_of l.origin l.device) l.before;
  here : l.so_far ≡ rounds_by (map (cause_of l.origin l.device) (range_with_len 1 l.before));
}
