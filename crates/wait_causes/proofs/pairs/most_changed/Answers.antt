use Rattle.std.proofs.Common.{◌++◌, ◌∷◌, [], sym, subst, get_or, take}
use Rattle.std.proofs.lemmas.List.{take_more}
use Rattle.wait_causes.specs.Changes.{IsMostChanged}
use Rattle.wait_causes.proofs.ChangeLemmas.{blank, most_more}
use Rattle.wait_causes.proofs.pairs.most_changed.Goals as goal

pub loop-row-preserved : goal.loop-row-preserved
loop-row-preserved c =
    let rows = c.args.rows.now in
    let i = c.loop-row.row-index in
    subst (λ rs. IsMostChanged rs c.more_changed-most.result) (sym (take_more rows i blank c.loop-row-test.true))
    (subst (IsMostChanged (take i rows ++ get_or rows i blank ∷ [])) (sym c.more_changed-most.ensures) (most_more (take i rows) (get_or rows i blank) c.loop-row.most c.loop-row.invariant))
