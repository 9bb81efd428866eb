use Rattle.std.proofs.Common.{◌∙◌, subst, sym, ap, length, List, Option, IfOk, arith, drop, IfSome, IfNone}
use Rattle.negative_cycle.specs.Walks.{came_by, IsLoop, EndsAtRoot, Arc}
use Rattle.negative_cycle.proofs.CycleLemmas.{gains-from_found, ends-from_found}
use Rattle.negative_cycle.proofs.potentials.Potentials.find_cycle.Goals as goal

pub walk_back-requires-clause-preds : goal.walk_back-requires-clause-preds
walk_back-requires-clause-preds c = λ node arc came.
    let by = c.self.invariant.0.risen node arc (ap (λ (ps : List (Option Arc)). came_by ps node) (sym c.deref.ensures.value) ∙ came) in
    (by.heads, omega (arith, by.tails, c.self.invariant.0.lengths, ap length c.deref.ensures.value))

pub returns-clause-gains : goal.returns-clause-gains
returns-clause-gains c =
    let found = subst (λ (ps : List (Option Arc)). IfOk c.walk_back.result (λ found. IfSome found (λ k. IsLoop ps (drop k c.walk_back.new.path.items)))) c.deref.ensures.value c.walk_back.ensures.closes in
    gains-from_found c.self.inside.most c.self.inside.potentials.items c.self.inside.preds.items c.walk_back.result c.walk_back.new.path.items c.self.invariant.0 found

pub returns-clause-ends : goal.returns-clause-ends
returns-clause-ends c =
    let found = subst (λ (ps : List (Option Arc)). IfOk c.walk_back.result (λ found. IfNone found (EndsAtRoot ps c.args.start c.walk_back.new.path.items))) c.deref.ensures.value c.walk_back.ensures.ends in
    let here = ends-from_found c.self.inside.most c.self.inside.potentials.items c.self.inside.preds.items c.args.start c.walk_back.result c.walk_back.new.path.items c.self.invariant.0 found in
    rw (← c.self.view_is) here
