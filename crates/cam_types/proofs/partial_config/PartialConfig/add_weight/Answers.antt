use Rattle.std.proofs.Common.{rules}
use Rattle.cam_types.proofs.TopologyLemmas.{partial_weight}
use Rattle.cam_types.proofs.partial_config.PartialConfig.add_weight.Goals as goal

pub invariant_of-self-2 : goal.invariant_of-self-2
invariant_of-self-2 c = partial_weight _ _ _ c.self.invariant (search rules) c.in_ok-push.ensures.items
