use Rattle.std.proofs.Common.{ℕ, List, length, ap, arith}
use Rattle.event_rules.proofs.LaneCount.{few_lanes}
use Rattle.sim_worker.proofs.NameLemmas.{one_lane_more}
use Rattle.sim_worker.proofs.names.add_lanes.Goals as goal

pub overflow_cast-lane-end : goal.overflow_cast-lane-end
overflow_cast-lane-end c = omega (arith, few_lanes _ c.lanes.ensures.kept, ap (λ (ls : List ℕ). length ls) c.lanes.ensures.same)

pub loop-lane-preserved : goal.loop-lane-preserved
loop-lane-preserved c = one_lane_more c.args.names.now.items c.loop-lane.lane _ _ c.loop-lane.invariant c.in_ok-push.ensures.items
