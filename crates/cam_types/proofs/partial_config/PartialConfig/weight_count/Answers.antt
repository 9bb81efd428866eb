use Rattle.std.proofs.Common.{arith}
use Rattle.cam_types.proofs.TopologyLemmas.{few_rows}
use Rattle.cam_types.proofs.partial_config.PartialConfig.weight_count.Goals as goal

pub overflow_cast-result : goal.overflow_cast-result
overflow_cast-result c = let few = few_rows _ c.self.invariant.weights in omega (arith, c.len.ensures)

pub returns-clause-few : goal.returns-clause-few
returns-clause-few c = let few = few_rows _ c.self.invariant.weights in omega (arith, c.len.ensures)
