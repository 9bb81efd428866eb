use Rattle.std.proofs.Common.{◌∙◌, ap}
use Rattle.std.specs.List.{count_by}
use Rattle.recorder.specs.Notes.{Note, is_open}
use Rattle.recorder.proofs.NoteLemmas.{count_open}
use Rattle.recorder.proofs.notes.Notes.open_count.Goals as goal

pub returns : goal.returns
returns c = c.open_ones.ensures ∙ (ap (count_by is_open) c.deref.ensures.value ∙ (count_open c.self.inside.ids.ids c.self.inside.attempts.items c.self.invariant.size ∙ ap (λ v. count_by (λ (n : Note). is_open n.attempt) v.notes) c.self.view_is))
