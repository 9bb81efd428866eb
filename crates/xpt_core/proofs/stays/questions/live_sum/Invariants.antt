use Rattle.std.proofs.Common.{◌≡◌, ◌≤◌, ◌*◌, ◌^◌, false, take, sum_by}
use Rattle.std.specs.List.{list_any}
use Rattle.xpt_core.specs.StayRecord.{is_unsent, waiting_cost}
use Rattle.xpt_core.proofs.stays.questions.live_sum.Given as goal

abbrev pub invariant-loop-record : goal.invariant-loop-record
invariant-loop-record l = record {
  sent : list_any is_unsent (take l.record-index l.records) ≡ false;
  so_far : l.total ≡ sum_by (waiting_cost l.config) (take l.record-index l.records);
  short : l.total ≤ 2 ^ 42 * l.record-index;
}
