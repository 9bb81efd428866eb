use Rattle.std.proofs.Common.{◌≡◌, ◌*◌, ◌≤◌, take, sum_by}
use Rattle.wait_causes.specs.Words.{Error, Caller, AdapterFrozen, DeviceStopped, AdapterStopped, LinkStopped, DeviceFull, AdapterFull, LinkFull, NotAsked}
use Rattle.wait_causes.specs.Behind.{LessUrgent, Equal, MoreUrgent}
use Rattle.wait_causes.specs.Parts.{measure, Waited, Live, Best, Cost, Full}
use Rattle.wait_causes.proofs.part.sums_of.Given as goal

abbrev pub invariant-loop-stay : goal.invariant-loop-stay
invariant-loop-stay l = record {
  waited : l.sums.waited ≡ sum_by (measure Waited) (take l.stay-index l.stays);
  live : l.sums.live ≡ sum_by (measure Live) (take l.stay-index l.stays);
  best : l.sums.best ≡ sum_by (measure Best) (take l.stay-index l.stays);
  error : l.sums.costs.error ≡ sum_by (measure (Cost Error)) (take l.stay-index l.stays);
  caller : l.sums.costs.caller ≡ sum_by (measure (Cost Caller)) (take l.stay-index l.stays);
  adapter_frozen : l.sums.costs.adapter_frozen ≡ sum_by (measure (Cost AdapterFrozen)) (take l.stay-index l.stays);
  device_stopped : l.sums.costs.device_stopped ≡ sum_by (measure (Cost DeviceStopped)) (take l.stay-index l.stays);
  adapter_stopped : l.sums.costs.adapter_stopped ≡ sum_by (measure (Cost AdapterStopped)) (take l.stay-index l.stays);
  link_stopped : l.sums.costs.link_stopped ≡ sum_by (measure (Cost LinkStopped)) (take l.stay-index l.stays);
  device_full : l.sums.costs.device_full ≡ sum_by (measure (Cost DeviceFull)) (take l.stay-index l.stays);
  adapter_full : l.sums.costs.adapter_full ≡ sum_by (measure (Cost AdapterFull)) (take l.stay-index l.stays);
  link_full : l.sums.costs.link_full ≡ sum_by (measure (Cost LinkFull)) (take l.stay-index l.stays);
  not_asked : l.sums.costs.not_asked ≡ sum_by (measure (Cost NotAsked)) (take l.stay-index l.stays);
  less_urgent : l.sums.behind.less_urgent ≡ sum_by (measure (Full LessUrgent)) (take l.stay-index l.stays);
  equal : l.sums.behind.equal ≡ sum_by (measure (Full Equal)) (take l.stay-index l.stays);
  more_urgent : l.sums.behind.more_urgent ≡ sum_by (measure (Full MoreUrgent)) (take l.stay-index l.stays);
  few_waited : l.sums.waited ≤ 4398046511104 * l.stay-index;
  few_live : l.sums.live ≤ 4398046511104 * l.stay-index;
  few_best : l.sums.best ≤ 4398046511104 * l.stay-index;
  few_error : l.sums.costs.error ≤ 4398046511104 * l.stay-index;
  few_caller : l.sums.costs.caller ≤ 4398046511104 * l.stay-index;
  few_adapter_frozen : l.sums.costs.adapter_frozen ≤ 4398046511104 * l.stay-index;
  few_device_stopped : l.sums.costs.device_stopped ≤ 4398046511104 * l.stay-index;
  few_adapter_stopped : l.sums.costs.adapter_stopped ≤ 4398046511104 * l.stay-index;
  few_link_stopped : l.sums.costs.link_stopped ≤ 4398046511104 * l.stay-index;
  few_device_full : l.sums.costs.device_full ≤ 4398046511104 * l.stay-index;
  few_adapter_full : l.sums.costs.adapter_full ≤ 4398046511104 * l.stay-index;
  few_link_full : l.sums.costs.link_full ≤ 4398046511104 * l.stay-index;
  few_not_asked : l.sums.costs.not_asked ≤ 4398046511104 * l.stay-index;
  few_less_urgent : l.sums.behind.less_urgent ≤ 4398046511104 * l.stay-index;
  few_equal : l.sums.behind.equal ≤ 4398046511104 * l.stay-index;
  few_more_urgent : l.sums.behind.more_urgent ≤ 4398046511104 * l.stay-index;
}
