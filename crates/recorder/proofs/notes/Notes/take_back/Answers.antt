use Rattle.std.proofs.Common.{◌∙◌, sym, ap, arith, refl, map}
use Rattle.capture_windows.specs.Devices.{going_on}
use Rattle.recorder.specs.Notes.{Noted, attempt_of}
use Rattle.recorder.proofs.WindowLemmas.{going_few, window_fields, window_notes}
use Rattle.recorder.proofs.notes.Notes.take_back.Goals as goal

pub replace_by-requires : goal.replace_by-requires
replace_by-requires c =
    let is = c.requires ∙ ap (λ (v : Noted). going_on c.args.span (map attempt_of v.notes)) (sym c.self.view_is) in
    let h = c.self.invariant in
    let size = h.size in
    let within = h.within in
    let room = h.room in
    omega (arith, going_few c.args.span c.self.inside.ids.ids c.self.inside.attempts.items c.args.attempts.now size is)

pub invariant_of-self : goal.invariant_of-self
invariant_of-self c =
    let is = c.requires ∙ ap (λ (v : Noted). going_on c.args.span (map attempt_of v.notes)) (sym c.self.view_is) in
    rw (c.keep_staying.ensures, c.replace_by.ensures.items, c.replace_by.ensures.capacity, c.deref.ensures.value)
    (window_fields c.args.span c.self.inside.ids c.self.inside.attempts.items c.args.attempts.now c.self.inside.attempts.cap is c.self.invariant)

pub returns : goal.returns
returns c =
    let is = c.requires ∙ ap (λ (v : Noted). going_on c.args.span (map attempt_of v.notes)) (sym c.self.view_is) in
    rw (← c.self.view_is, c.keep_staying.ensures, c.replace_by.ensures.items, c.deref.ensures.value, window_notes c.args.span c.self.inside.ids.ids c.self.inside.attempts.items c.args.attempts.now c.self.invariant.size is) refl
