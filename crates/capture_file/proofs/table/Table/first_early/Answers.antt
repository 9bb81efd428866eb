use Rattle.std.proofs.Common.{◌∙◌, sym}
use Rattle.capture_file.proofs.PlaceLemmas.{first_early-at, early_found, early_passes}
use Rattle.capture_file.proofs.table.Table.first_early.Goals as goal

pub returns-clause-first : goal.returns-clause-first
returns-clause-first c = c.first_at.ensures.first ∙ rw c.early.ensures (sym (first_early-at c.args.place c.args.from c.args.self.now))

pub returns-clause-at : goal.returns-clause-at
returns-clause-at c = early_found c.args.place c.args.from c.args.self.now c.first_at.result c.first_at.ensures.rising (returns-clause-first c)

pub returns-clause-passes : goal.returns-clause-passes
returns-clause-passes c = early_passes c.args.place c.args.from c.args.self.now c.first_at.result c.first_at.ensures.rising (returns-clause-first c)
