use Rattle.std.proofs.Common.{◌≡◌, arith, rules, ap, replicate, length}
use Rattle.negative_cycle.proofs.ForestLemmas.{IsForest-begun}
use Rattle.negative_cycle.proofs.potentials.Potentials.new.Goals as goal

pub invariant_of-result : goal.invariant_of-result
invariant_of-result c =
    let potentials : c.in_ok-vec.field-0.items ≡ replicate c.args.nodes 0 = search rules in
    let places : c.in_ok-vec-2.field-0.items ≡ replicate c.args.nodes 0 = search rules in (
      IsForest-begun c.args.most c.in_ok-vec.field-0.items c.in_ok-unrisen.field-0.items c.args.nodes c.requires potentials c.in_ok-unrisen.ensures,
      omega (arith, ap length potentials, ap length places),
    )
