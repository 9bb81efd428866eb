use Rattle.std.proofs.Common.{◌≡◌, subst, IfOk}
use Rattle.wait_causes.specs.Explained.{Explained}
use Rattle.wait_causes.specs.Origins.{known_of}
use Rattle.wait_causes.specs.Stays.{explained}
use Rattle.wait_causes.specs.Tables.{table_of}
use Rattle.wait_causes.proofs.ExplainedLemmas.{few_explained, light_explained}
use Rattle.wait_causes.proofs.explanation.Explanation.table.Goals as goal

pub table_of-requires-clause-few : goal.table_of-requires-clause-few
table_of-requires-clause-few c =
    let x = c.self.inside in
    rw c.deref.ensures.value (few_explained x.origin x.stays.items c.self.invariant.0)

pub table_of-requires-clause-light : goal.table_of-requires-clause-light
table_of-requires-clause-light c =
    let x = c.self.inside in
    rw c.deref.ensures.value (light_explained x.origin x.stays.items c.self.invariant.0)

pub returns : goal.returns
returns c =
    subst (λ (e : Explained). IfOk c.table_of.result (λ rows. rows.items ≡ table_of (known_of e.origin) c.args.by (explained e.origin e.pace e.best))) c.self.view_is
    (rw (c.known.ensures, c.deref.ensures.value, c.self.invariant.0.rows) at c.table_of.ensures)
