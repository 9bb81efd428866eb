use Rattle.std.proofs.Common.{◌≡◌, ℕ, arith, rules, ap, replicate, length}
use Rattle.std.proofs.lemmas.List.{length-map, length-replicate}
use Rattle.negative_cycle.specs.PotentialTable.{begun}
use Rattle.negative_cycle.proofs.ForestLemmas.{IsForest-given}
use Rattle.negative_cycle.proofs.potentials.Potentials.start.Goals as goal

pub invariant_of-result : goal.invariant_of-result
invariant_of-result c =
    let given = c.args.potentials.now in
    let potentials = c.in_ok-cut.ensures in
    let places : c.in_ok-vec.field-0.items ≡ replicate (length given) 0 = search rules in (
      IsForest-given c.args.most given c.in_ok-cut.field-0.items c.in_ok-unrisen.field-0.items c.requires potentials c.in_ok-unrisen.ensures,
      omega (arith, ap length potentials, length-map given (begun c.args.most), length-replicate {A = ℕ} (length given) 0, ap length places),
    )
