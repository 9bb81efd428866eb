use Rattle.std.proofs.Common.{ap, ◌∙◌}
use Rattle.capture_file.specs.Attempts.{without}
use Rattle.capture_file.proofs.KeyLemmas.{IsRising-values, values-remove_entry, AreIds-remove_entry}
use Rattle.capture_file.proofs.by_id.ById.remove.Goals as goal

pub invariant_of-self : goal.invariant_of-self
invariant_of-self c = record {
  ids = rw c.remove.ensures.entries (AreIds-remove_entry c.args.id c.self.inside.attempts.entries c.self.invariant.ids);
  ordered = c.remove.ensures.ordered;
}

pub returns : goal.returns
returns c =
    let es = c.self.inside.attempts.entries in
    rw c.remove.ensures.entries (values-remove_entry c.args.id es c.self.invariant.ids (IsRising-values es c.self.invariant.ids c.self.invariant.ordered) ∙ ap (without c.args.id) c.self.view_is)
