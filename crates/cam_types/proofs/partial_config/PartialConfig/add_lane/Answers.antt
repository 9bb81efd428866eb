use Rattle.std.proofs.Common.{rules}
use Rattle.cam_types.proofs.TopologyLemmas.{partial_lane}
use Rattle.cam_types.proofs.partial_config.PartialConfig.add_lane.Goals as goal

pub invariant_of-self-2 : goal.invariant_of-self-2
invariant_of-self-2 c = partial_lane _ _ _ c.self.invariant (search rules) c.in_ok-push.ensures.items
