use Rattle.std.proofs.Common.{◌≤◌, length, subst}
use Rattle.wait_causes.specs.Counting.{AreWithin}
use Rattle.wait_causes.specs.Explained.{Explained}
use Rattle.wait_causes.specs.Origins.{instance_in}
use Rattle.wait_causes.proofs.ExplainedLemmas.{few_explained, within_explained}
use Rattle.wait_causes.proofs.explanation.Explanation.stays.Goals as goal

pub returns-clause-within : goal.returns-clause-within
returns-clause-within c =
    let x = c.self.inside in
    subst (λ (e : Explained). AreWithin (instance_in e.origin) c.deref.result.now) c.self.view_is
    (rw c.deref.ensures.value (within_explained x.origin x.stays.items c.self.invariant.0))

pub returns-clause-few : goal.returns-clause-few
returns-clause-few c =
    let x = c.self.inside in
    rw c.deref.ensures.value (few_explained x.origin x.stays.items c.self.invariant.0)
