use Rattle.std.proofs.Common.{◌∙◌, sym}
use Rattle.capture_file.proofs.PlaceLemmas.{first_waiting-at, waiting_at, waiting_passes}
use Rattle.capture_file.proofs.table.Table.first_waiting.Goals as goal

pub returns-clause-first : goal.returns-clause-first
returns-clause-first c = c.first_at.ensures.first ∙ rw c.waiting.ensures (sym (first_waiting-at c.args.place c.args.self.now))

pub returns-clause-at : goal.returns-clause-at
returns-clause-at c = waiting_at c.args.place c.args.self.now c.first_at.result c.first_at.ensures.rising (returns-clause-first c)

pub returns-clause-passes : goal.returns-clause-passes
returns-clause-passes c = waiting_passes c.args.place c.args.self.now c.first_at.result c.first_at.ensures.rising (returns-clause-first c)
