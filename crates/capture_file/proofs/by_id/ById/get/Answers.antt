use Rattle.std.proofs.Common.{ap, ◌∙◌, subst}
use Rattle.capture_file.specs.Attempts.{IsRising, with_id}
use Rattle.capture_file.proofs.KeyLemmas.{IsRising-values, lookup-with_id}
use Rattle.capture_file.proofs.by_id.ById.get.Goals as goal

pub returns-clause-found : goal.returns-clause-found
returns-clause-found c =
    c.copied.ensures ∙ c.get.ensures.value ∙ lookup-with_id c.args.id c.self.inside.attempts.entries c.self.invariant.ids ∙ ap (with_id c.args.id) c.self.view_is

pub returns-clause-rising : goal.returns-clause-rising
returns-clause-rising c = subst IsRising c.self.view_is (IsRising-values c.self.inside.attempts.entries c.self.invariant.ids c.self.invariant.ordered)
