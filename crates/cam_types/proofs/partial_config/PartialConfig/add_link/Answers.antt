use Rattle.std.proofs.Common.{rules}
use Rattle.cam_types.proofs.TopologyLemmas.{partial_link}
use Rattle.cam_types.proofs.partial_config.PartialConfig.add_link.Goals as goal

pub invariant_of-self-2 : goal.invariant_of-self-2
invariant_of-self-2 c = partial_link _ _ _ c.self.invariant (search rules) (search rules) c.in_ok-push.ensures.items
