use Rattle.std.proofs.Common.{◌≡◌, ◌∙◌, map, length, List, ℕ, sym, ap, subst, IfOk}
use Rattle.std.proofs.lemmas.Result.{IfOk-weaker}
use Rattle.wait_causes.specs.BehindLaws.{IsSplitPart}
use Rattle.wait_causes.specs.Explained.{Explained}
use Rattle.wait_causes.specs.Origins.{IsLiveCost, known_of}
use Rattle.wait_causes.specs.Parts.{part_of, all_costs, Part}
use Rattle.wait_causes.specs.Stays.{explained, paces, ExplainedStay}
use Rattle.wait_causes.proofs.ExplainedLemmas.{few_explained, light_explained, stays_length, whole_live}
use Rattle.wait_causes.proofs.PartLemmas.{part_adds_up}
use Rattle.wait_causes.proofs.SplitLemmas.{whole_split}
use Rattle.wait_causes.proofs.explanation.Explanation.whole.Goals as goal

pub part_of-requires-clause-few : goal.part_of-requires-clause-few
part_of-requires-clause-few c =
    let x = c.self.inside in
    rw c.deref.ensures.value (few_explained x.origin x.stays.items c.self.invariant.0)

pub part_of-requires-clause-light : goal.part_of-requires-clause-light
part_of-requires-clause-light c =
    let x = c.self.inside in
    rw c.deref.ensures.value (light_explained x.origin x.stays.items c.self.invariant.0)

pub returns-clause-part : goal.returns-clause-part
returns-clause-part c =
    subst (λ (e : Explained). IfOk c.part_of.result (λ part. part ≡ part_of (known_of e.origin) (explained e.origin e.pace e.best))) c.self.view_is
    (rw (c.known.ensures, c.deref.ensures.value, c.self.invariant.0.rows) at c.part_of.ensures)

pub returns-clause-add_up : goal.returns-clause-add_up
returns-clause-add_up c =
    let x = c.self.inside in
    let pace : List ℕ = paces x.stays.items in
    let best : List ℕ = map (λ (s : ExplainedStay). s.best) x.stays.items in
    IfOk-weaker c.part_of.result (λ part. part ≡ part_of (known_of x.origin) (explained x.origin pace best)) (λ part. all_costs part.costs ≡ part.live)
    (λ part is. subst (λ (p : Part). all_costs p.costs ≡ p.live) (sym is) (part_adds_up x.origin (known_of x.origin) pace best))
    (rw (c.known.ensures, c.deref.ensures.value, c.self.invariant.0.rows) at c.part_of.ensures)

pub returns-clause-behind : goal.returns-clause-behind
returns-clause-behind c =
    let x = c.self.inside in
    let pace : List ℕ = paces x.stays.items in
    let best : List ℕ = map (λ (s : ExplainedStay). s.best) x.stays.items in
    IfOk-weaker c.part_of.result (λ part. part ≡ part_of (known_of x.origin) (explained x.origin pace best)) IsSplitPart
    (λ part is. subst IsSplitPart (sym is) (whole_split x.origin pace best))
    (rw (c.known.ensures, c.deref.ensures.value, c.self.invariant.0.rows) at c.part_of.ensures)

pub returns-clause-live : goal.returns-clause-live
returns-clause-live c =
    let x = c.self.inside in
    let pace : List ℕ = paces x.stays.items in
    let best : List ℕ = map (λ (s : ExplainedStay). s.best) x.stays.items in
    subst (λ (e : Explained). IfOk c.part_of.result (λ part. IsLiveCost e.origin part.live)) c.self.view_is
    (IfOk-weaker c.part_of.result (λ part. part ≡ part_of (known_of x.origin) (explained x.origin pace best)) (λ part. IsLiveCost x.origin part.live)
    (λ part is. subst (λ (p : Part). IsLiveCost x.origin p.live) (sym is) (whole_live x.origin (known_of x.origin) pace best c.self.invariant.0.all (sym (ap (λ (xs : List ExplainedStay). length xs) c.self.invariant.0.rows) ∙ stays_length x.origin x.stays.items c.self.invariant.0)))
    (rw (c.known.ensures, c.deref.ensures.value, c.self.invariant.0.rows) at c.part_of.ensures))
