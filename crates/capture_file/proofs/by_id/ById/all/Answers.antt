use Rattle.std.proofs.Common.{ap, ◌∙◌}
use Rattle.capture_file.specs.Attempts.{ids}
use Rattle.capture_file.proofs.KeyLemmas.{keys-ids}
use Rattle.capture_file.proofs.by_id.ById.all.Goals as goal

pub returns-clause-keys : goal.returns-clause-keys
returns-clause-keys c = keys-ids c.self.inside.attempts.entries c.self.invariant.ids ∙ ap ids c.self.view_is
