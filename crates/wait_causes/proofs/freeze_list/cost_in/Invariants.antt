use Rattle.std.proofs.Common.{◌≡◌, ◌*◌, ◌≤◌, take, sum_by}
use Rattle.round_net.specs.Ends.{cause_in}
use Rattle.wait_causes.specs.Freezes.{stay_cost, rounds_between}
use Rattle.wait_causes.proofs.freeze_list.cost_in.Given as goal

abbrev pub invariant-loop-stay : goal.invariant-loop-stay
invariant-loop-stay l = record {
  same : l.cost ≡ sum_by (stay_cost (cause_in l.table.config l.table.events) l.cause (rounds_between l.first l.end)) (take l.stay-index l.stays);
  small : l.cost ≤ 281474976710656 * l.stay-index;
}
