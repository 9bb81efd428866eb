use Rattle.std.proofs.Common.{sym, ap, subst, ◌∙◌, map}
use Rattle.recorder.specs.Notes.{AreApart, Noted, attempt_of}
use Rattle.recorder.proofs.NoteLemmas.{attempts_back}
use Rattle.recorder.proofs.notes.Notes.attempts.Goals as goal

pub returns-clause-attempts : goal.returns-clause-attempts
returns-clause-attempts c = c.deref.ensures.value ∙ (sym (attempts_back c.self.inside.ids.ids c.self.inside.attempts.items c.self.invariant.size) ∙ ap (λ v. map attempt_of v.notes) c.self.view_is)

pub returns-clause-apart : goal.returns-clause-apart
returns-clause-apart c = subst (λ (v : Noted). AreApart v.notes) c.self.view_is c.self.invariant.apart
