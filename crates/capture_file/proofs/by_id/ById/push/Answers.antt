use Rattle.std.proofs.Common.{ℕ, ◌<◌, List, ◌∷◌, [], ◌++◌, sym, ap, ◌∙◌, subst}
use Rattle.std.specs.List.{AllByRecursion}
use Rattle.capture_file.specs.Attempts.{Attempt}
use Rattle.capture_file.proofs.KeyLemmas.{values-push, AreIds-push}
use Rattle.capture_file.proofs.by_id.ById.push.Goals as goal

AreLower : ℕ → List Attempt → Type 0
AreLower id bs = AllByRecursion (λ (b : Attempt). b.id < id) bs

pub invariant_of-self-2 : goal.invariant_of-self-2
unfolding AreLower
invariant_of-self-2 c =
    let low = subst (AreLower c.args.attempt.id) (sym c.self.view_is) c.requires in
    record {
      ids = rw c.in_ok-insert.ensures.entries (AreIds-push c.args.attempt c.self.inside.attempts.entries c.self.invariant.ids low);
      ordered = c.insert.ensures.ordered;
    }

pub returns-clause-ok : goal.returns-clause-ok
unfolding AreLower
returns-clause-ok c =
    let low = subst (AreLower c.args.attempt.id) (sym c.self.view_is) c.requires in
    rw c.in_ok-insert.ensures.entries (values-push c.args.attempt c.self.inside.attempts.entries c.self.invariant.ids low ∙ ap (λ bs. bs ++ c.args.attempt ∷ []) c.self.view_is)
