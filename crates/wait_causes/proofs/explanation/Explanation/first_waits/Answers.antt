use Rattle.std.proofs.Common.{◌≡◌, ◌<◌, map, get_or, sym, subst, Some, length, arith, ap, ◌∙◌, IfOk, slice_get, ltb-true, List, ℕ}
use Rattle.std.proofs.lemmas.Option.{get_or_from_slice_get}
use Rattle.wait_causes.specs.Counting.{IsWithin}
use Rattle.wait_causes.specs.Explained.{Explained}
use Rattle.wait_causes.specs.FirstWaits.{AreFirstWaitsOf, AreRuns, DeviceRuns}
use Rattle.wait_causes.specs.Origins.{instance_in, cause_of}
use Rattle.wait_causes.specs.Stays.{explained, paces, ExplainedStay}
use Rattle.wait_causes.proofs.ExplainedLemmas.{within_explained}
use Rattle.wait_causes.proofs.explanation.Explanation.first_waits.Goals as goal

pub index-requires : goal.index-requires
index-requires c =
    let x = c.self.inside in
    let kept = c.in-Some.kept.now in
    let found = c.in-Some.ensures.lookup in
    let lt : c.args.place < length x.stays.items = omega (arith, ltb-true _ _ (sym found.0), ap (λ (xs : List ExplainedStay). length xs) c.deref.ensures.value) in
    let read : kept ≡ get_or x.stays.items c.args.place kept = found.1 ∙ ap (λ (xs : List ExplainedStay). get_or xs c.args.place kept) c.deref.ensures.value in
    let within : IsWithin (instance_in x.origin) kept = subst (IsWithin (instance_in x.origin)) (sym read) (within_explained x.origin x.stays.items c.self.invariant.0 c.args.place kept lt) in
    omega (arith, within.device, c.self.invariant.1.all)

pub first_waits-requires-clause-device : goal.first_waits-requires-clause-device
first_waits-requires-clause-device c =
    let x = c.self.inside in
    let kept = c.in-Some.kept.now in
    let found = c.in-Some.ensures.lookup in
    let lt : c.args.place < length x.stays.items = omega (arith, ltb-true _ _ (sym found.0), ap (λ (xs : List ExplainedStay). length xs) c.deref.ensures.value) in
    let read : kept ≡ get_or x.stays.items c.args.place kept = found.1 ∙ ap (λ (xs : List ExplainedStay). get_or xs c.args.place kept) c.deref.ensures.value in
    let within : IsWithin (instance_in x.origin) kept = subst (IsWithin (instance_in x.origin)) (sym read) (within_explained x.origin x.stays.items c.self.invariant.0 c.args.place kept lt) in
    within.device

pub first_waits-requires-clause-runs : goal.first_waits-requires-clause-runs
first_waits-requires-clause-runs c =
    let x = c.self.inside in
    let kept = c.in-Some.kept.now in
    let found = c.in-Some.ensures.lookup in
    let lt : c.args.place < length x.stays.items = omega (arith, ltb-true _ _ (sym found.0), ap (λ (xs : List ExplainedStay). length xs) c.deref.ensures.value) in
    let read : kept ≡ get_or x.stays.items c.args.place kept = found.1 ∙ ap (λ (xs : List ExplainedStay). get_or xs c.args.place kept) c.deref.ensures.value in
    let within : IsWithin (instance_in x.origin) kept = subst (IsWithin (instance_in x.origin)) (sym read) (within_explained x.origin x.stays.items c.self.invariant.0 c.args.place kept lt) in
    subst (λ (r : DeviceRuns). AreRuns (cause_of x.origin kept.device) (instance_in x.origin).rounds r) (sym c.index.ensures) (c.self.invariant.1.each kept.device c.index.result.now within.device)

pub first_waits-requires-clause-first : goal.first_waits-requires-clause-first
first_waits-requires-clause-first c =
    let x = c.self.inside in
    let kept = c.in-Some.kept.now in
    let found = c.in-Some.ensures.lookup in
    let lt : c.args.place < length x.stays.items = omega (arith, ltb-true _ _ (sym found.0), ap (λ (xs : List ExplainedStay). length xs) c.deref.ensures.value) in
    let read : kept ≡ get_or x.stays.items c.args.place kept = found.1 ∙ ap (λ (xs : List ExplainedStay). get_or xs c.args.place kept) c.deref.ensures.value in
    let within : IsWithin (instance_in x.origin) kept = subst (IsWithin (instance_in x.origin)) (sym read) (within_explained x.origin x.stays.items c.self.invariant.0 c.args.place kept lt) in
    within.first

pub first_waits-requires-clause-last : goal.first_waits-requires-clause-last
first_waits-requires-clause-last c =
    let x = c.self.inside in
    let kept = c.in-Some.kept.now in
    let found = c.in-Some.ensures.lookup in
    let lt : c.args.place < length x.stays.items = omega (arith, ltb-true _ _ (sym found.0), ap (λ (xs : List ExplainedStay). length xs) c.deref.ensures.value) in
    let read : kept ≡ get_or x.stays.items c.args.place kept = found.1 ∙ ap (λ (xs : List ExplainedStay). get_or xs c.args.place kept) c.deref.ensures.value in
    let within : IsWithin (instance_in x.origin) kept = subst (IsWithin (instance_in x.origin)) (sym read) (within_explained x.origin x.stays.items c.self.invariant.0 c.args.place kept lt) in
    within.last

pub returns-clause-waits : goal.returns-clause-waits
returns-clause-waits c =
    let x = c.self.inside in
    let kept = c.in-Some.kept.now in
    let found = c.in-Some.ensures.lookup in
    let lt : c.args.place < length x.stays.items = omega (arith, ltb-true _ _ (sym found.0), ap (λ (xs : List ExplainedStay). length xs) c.deref.ensures.value) in
    let read : kept ≡ get_or x.stays.items c.args.place kept = found.1 ∙ ap (λ (xs : List ExplainedStay). get_or xs c.args.place kept) c.deref.ensures.value in
    let best : List ℕ = map (λ (s : ExplainedStay). s.best) x.stays.items in
    subst (λ (e : Explained). (s : ExplainedStay) → slice_get (explained e.origin e.pace e.best) c.args.place ≡ Some s → IfOk c.first_waits.result (λ w. AreFirstWaitsOf e.origin s c.args.most w)) c.self.view_is (λ s at.
    let same : kept ≡ s = read ∙ ap (λ (xs : List ExplainedStay). get_or xs c.args.place kept) c.self.invariant.0.rows ∙ get_or_from_slice_get (explained x.origin (paces x.stays.items) best) c.args.place s kept at in
    subst (λ (k : ExplainedStay). IfOk c.first_waits.result (λ w. AreFirstWaitsOf x.origin k c.args.most w)) same c.first_waits.ensures)
