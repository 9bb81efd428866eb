use Rattle.std.proofs.Common.{arith}
use Rattle.cam_types.proofs.ConfigLemmas.{few_in_partial}
use Rattle.cam_types.proofs.partial_config.PartialConfig.link_count.Goals as goal

pub overflow_cast-result : goal.overflow_cast-result
overflow_cast-result c = let few = few_in_partial _ c.self.invariant.links in omega (arith, c.len.ensures)

pub returns-clause-few : goal.returns-clause-few
returns-clause-few c = let few = few_in_partial _ c.self.invariant.links in omega (arith, c.len.ensures)
