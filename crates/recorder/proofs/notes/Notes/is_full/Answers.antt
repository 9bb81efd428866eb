use Rattle.std.proofs.Common.{◌∙◌, sym, ap, length, nat_le}
use Rattle.recorder.proofs.NoteLemmas.{notes_length}
use Rattle.recorder.proofs.notes.Notes.is_full.Goals as goal

pub returns : goal.returns
returns c = c.is_full.ensures ∙ (ap (nat_le c.self.inside.ids.room) (sym (notes_length c.self.inside.ids.ids c.self.inside.attempts.items c.self.invariant.size)) ∙ ap (λ v. nat_le v.room (length v.notes)) c.self.view_is)
