use Rattle.std.proofs.Common.{◌≡◌, ◌∙◌, sym, subst, arith, refl, slice_get, true}
use Rattle.std.proofs.Math.Nat.{max_comm}
use Rattle.std.specs.Option.{IsSomeAnd}
use Rattle.recorder.specs.Notes.{Noted, is_open}
use Rattle.recorder.specs.Places.{IsOpenAt}
use Rattle.recorder.proofs.NoteLemmas.{change_fields, change_notes, open_within}
use Rattle.recorder.proofs.notes.Notes.change.Goals as goal

pub index_mut-requires : goal.index_mut-requires
index_mut-requires c =
    let h = subst (λ (v : Noted). IsSomeAnd (slice_get v.notes c.args.place) (λ n. is_open n.attempt ≡ true)) (sym c.self.view_is) c.requires in
    let size = c.self.invariant.size in
    omega (arith, open_within c.self.inside.ids.ids c.self.inside.attempts.items c.args.place size h)

pub invariant_of-self : goal.invariant_of-self
invariant_of-self c =
    let h = subst (λ (v : Noted). IsSomeAnd (slice_get v.notes c.args.place) (λ n. is_open n.attempt ≡ true)) (sym c.self.view_is) c.requires in
    change_fields c.self.inside.ids c.self.inside.attempts.items c.self.inside.attempts.cap c.args.place c.args.attempt h c.self.invariant

pub returns : goal.returns
returns c = λ id a f h is.
    let here = subst (λ (v : Noted). IsOpenAt id v.notes c.args.place a) (sym c.self.view_is) h in
    let e = change_notes id f c.self.inside.ids.ids c.self.inside.attempts.items c.args.place a c.args.attempt c.self.invariant.size here is in
    rw (← c.self.view_is, c.max-self-inside.ensures ∙ max_comm c.args.time c.self.inside.time, e) refl
