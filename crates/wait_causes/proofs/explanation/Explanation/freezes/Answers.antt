use Rattle.std.proofs.Common.{◌≡◌, subst, IfOk}
use Rattle.wait_causes.specs.Explained.{Explained}
use Rattle.wait_causes.specs.Freezes.{freezes_in}
use Rattle.wait_causes.specs.Stays.{explained}
use Rattle.wait_causes.proofs.ExplainedLemmas.{few_in_history, found_freezes}
use Rattle.wait_causes.proofs.explanation.Explanation.freezes.Goals as goal

pub freezes_of-requires : goal.freezes_of-requires
freezes_of-requires c =
    let x = c.self.inside in
    record { few = rw c.deref.ensures.value (few_in_history x.origin c.in-Trace.table x.stays.items c.in-Trace.is c.self.invariant.0) }

pub returns-in-Trace : goal.returns-in-Trace
returns-in-Trace c =
    let x = c.self.inside in
    subst (λ (e : Explained). IfOk c.freezes_of.result (λ rows. rows.items ≡ freezes_in e.origin (explained e.origin e.pace e.best))) c.self.view_is
    (rw (c.deref.ensures.value, found_freezes x.origin c.in-Trace.table x.stays.items c.in-Trace.is c.self.invariant.0) at c.freezes_of.ensures)
