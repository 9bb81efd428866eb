use Rattle.std.proofs.Common.{◌≡◌, ◌<◌, ◌+◌, ◌-◌, arith, ap, length, get_or}
use Rattle.std.proofs.lemmas.List.{length-set, get_or_read}
use Rattle.negative_cycle.specs.PotentialTable.{PotentialTable}
use Rattle.negative_cycle.proofs.ForestLemmas.{IsForest-raised}
use Rattle.negative_cycle.proofs.potentials.Potentials.relax.Goals as goal

pub invariant_of-self : goal.invariant_of-self
invariant_of-self c =
    let arc = c.args.arc in
    let potentials = c.self.inside.potentials.items in
    let preds = c.self.inside.preds.items in
    let forest = c.self.invariant.0 in
    let view = c.self.view_is in
    let tail_in : arc.tail < length potentials = omega (arith, ap (λ (l : PotentialTable). length l.potentials) view) in
    let head_in : arc.head < length potentials = omega (arith, ap (λ (l : PotentialTable). length l.potentials) view) in
    let tail : c.index.result.now ≡ get_or potentials arc.tail 0 = get_or_read potentials _ _ tail_in c.index.ensures 0 in
    let head : c.index-2.result.now ≡ get_or potentials arc.head 0 = get_or_read potentials _ _ head_in c.index-2.ensures 0 in
    let unsettled : get_or potentials arc.head 0 + arc.down < get_or potentials arc.tail 0 + arc.up = omega arith in (
      IsForest-raised c.self.inside.most potentials preds arc _ tail_in head_in (rw (← view) at c.requires.up) unsettled (omega arith) (omega arith) forest,
      omega (arith, length-set potentials arc.head (c.index.result.now + c.from.result - c.from-3.result), c.self.invariant.1),
    )
