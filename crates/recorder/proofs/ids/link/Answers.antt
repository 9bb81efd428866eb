use Rattle.std.proofs.Common.{sym, arith, subst, length, ◌++◌, ◌∷◌, [], set, List, ℕ, ◌%◌}
use Rattle.recorder.specs.Ids.{IsIndex}
use Rattle.recorder.proofs.IndexLemmas.{linked}
use Rattle.recorder.proofs.ids.link.Goals as goal

pub returns-clause-linked : goal.returns-clause-linked
returns-clause-linked c = λ ids h.
    let heads = c.args.heads.now in
    subst (λ (xs : List ℕ). IsIndex (ids ++ c.args.id ∷ []) (set heads (c.args.id % length heads) c.len.result) xs) (sym c.push_reserved.ensures.items)
    (linked ids heads c.args.earlier.now.items c.args.id c.len.result (omega (arith, c.len.ensures, c.push_reserved.ensures.len)) h)
