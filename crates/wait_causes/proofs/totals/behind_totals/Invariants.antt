use Rattle.std.proofs.Common.{◌≡◌, map}
use Rattle.std.specs.List.{range_with_len}
use Rattle.wait_causes.specs.Behind.{behind_in, behind_by}
use Rattle.wait_causes.specs.Origins.{cause_of, instance_in, live_in}
use Rattle.wait_causes.specs.Totals.{totals_by}
use Rattle.wait_causes.proofs.totals.behind_totals.Given as goal

abbrev pub invariant-loop-before : goal.invariant-loop-before
invariant-loop-before l = record {
  totals : l.totals.items ≡ totals_by behind_by (behind_in (instance_in l.origin) (live_in l.origin) (cause_of l.origin) l.device l.weight) l.before;
  here : l.so_far ≡ behind_by (map (behind_in (instance_in l.origin) (live_in l.origin) (cause_of l.origin) l.device l.weight) (range_with_len 1 l.before));
}
