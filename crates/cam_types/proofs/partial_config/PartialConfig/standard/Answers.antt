use Rattle.std.proofs.Common.{rules}
use Rattle.cam_types.proofs.TopologyLemmas.{standard_partial}
use Rattle.cam_types.proofs.partial_config.PartialConfig.standard.Goals as goal

pub invariant_of-result : goal.invariant_of-result
invariant_of-result c = search (rules, standard_partial)
