use Rattle.std.proofs.Common.{◌≡◌, ap, ◌∙◌, sym, subst, IsSome, None}
use Rattle.capture_file.specs.Attempts.{put, with_id}
use Rattle.capture_file.proofs.KeyLemmas.{IsRising-values, lookup-with_id, values-set_value, AreIds-set_value}
use Rattle.capture_file.proofs.by_id.ById.put.Goals as goal

pub unreachable-requires : goal.unreachable-requires
unreachable-requires c =
    let none : with_id c.args.attempt.id c.args.self.now ≡ None = ap (with_id c.args.attempt.id) (sym c.self.view_is) ∙ sym (lookup-with_id c.args.attempt.id c.self.inside.attempts.entries c.self.invariant.ids) ∙ sym c.in_default.ensures.value in
    let h = subst IsSome none c.requires in cc

pub invariant_of-self : goal.invariant_of-self
invariant_of-self c =
    let written = c.get_mut.follows.holds c.args.attempt in
    record {
      ids = rw written.0 (AreIds-set_value c.args.attempt c.self.inside.attempts.entries c.self.invariant.ids);
      ordered = written.4;
    }

pub returns : goal.returns
returns c =
    let es = c.self.inside.attempts.entries in
    let written = c.get_mut.follows.holds c.args.attempt in
    rw written.0 (values-set_value c.args.attempt es c.self.invariant.ids (IsRising-values es c.self.invariant.ids c.self.invariant.ordered) ∙ ap (put c.args.attempt) c.self.view_is)
