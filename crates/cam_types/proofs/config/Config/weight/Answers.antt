use Rattle.std.proofs.Common.{arith}
use Rattle.cam_types.proofs.ConfigLemmas.{weight_small}
use Rattle.cam_types.proofs.config.Config.weight.Goals as goal

pub returns-clause-some : goal.returns-clause-some
returns-clause-some c =
    let small = weight_small _ c.args.priority c.self.invariant in
    let is = rw (c.deref.ensures.value, c.number.ensures.same) at c.weight_in.ensures in
    omega (arith, is)

pub returns-clause-most : goal.returns-clause-most
returns-clause-most c =
    let small = weight_small _ c.args.priority c.self.invariant in
    let is = rw (c.deref.ensures.value, c.number.ensures.same) at c.weight_in.ensures in
    omega (arith, is)
