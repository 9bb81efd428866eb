use Rattle.std.proofs.Common.{◌∙◌, sym, ap, subst, arith}
use Rattle.std.proofs.lemmas.List.{get_or_default}
use Rattle.capture_windows.specs.declared.attempt.Attempt.{Attempt}
use Rattle.recorder.specs.Notes.{Noted, is_open, open_request}
use Rattle.recorder.specs.Places.{IsOpenAt, notes_of}
use Rattle.recorder.proofs.KeepLemmas.{no_attempt}
use Rattle.recorder.proofs.NoteLemmas.{absent_open, closed_at, open_at}
use Rattle.recorder.proofs.notes.Notes.open_of.Goals as goal

pub returns-in_err-place : goal.returns-in_err-place
returns-in_err-place c = rw c.from_residual.ensures
    (ap (λ (v : Noted). open_request c.args.id v.notes) (sym c.self.view_is) ∙ absent_open c.args.id c.self.inside.ids.ids c.self.inside.attempts.items c.in_err-place.ensures)

pub returns-then-is_open : goal.returns-then-is_open
returns-then-is_open c =
    let ids = c.self.inside.ids.ids in
    let attempts = c.self.inside.attempts.items in
    let place = c.in_ok-place.place in
    let within = c.in_ok-place.ensures.within in
    let size = c.self.invariant.size in
    let is = c.index.ensures ∙ get_or_default attempts place c.index.result.now no_attempt (omega arith) in
    subst (λ (v : Noted). IsOpenAt c.args.id v.notes place c.index.result.now) c.self.view_is
    (subst (λ (a : Attempt). IsOpenAt c.args.id (notes_of ids attempts) place a) (sym is)
    (open_at c.args.id ids attempts place c.self.invariant.size c.self.invariant.apart c.in_ok-place.ensures (sym (c.if-is_open.ensures ∙ ap is_open is))))

pub returns-else-is_open : goal.returns-else-is_open
returns-else-is_open c =
    let ids = c.self.inside.ids.ids in
    let attempts = c.self.inside.attempts.items in
    let place = c.in_ok-place.place in
    let within = c.in_ok-place.ensures.within in
    let size = c.self.invariant.size in
    let is = c.index.ensures ∙ get_or_default attempts place c.index.result.now no_attempt (omega arith) in
    ap (λ (v : Noted). open_request c.args.id v.notes) (sym c.self.view_is)
    ∙ closed_at c.args.id ids attempts place c.self.invariant.size c.self.invariant.apart c.in_ok-place.ensures (sym (c.if-is_open.ensures ∙ ap is_open is))
