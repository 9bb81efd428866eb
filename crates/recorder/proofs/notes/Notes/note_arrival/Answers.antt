use Rattle.std.proofs.Common.{◌≡◌, ◌<◌, ℕ, sym, subst, arith, refl, length, None}
use Rattle.recorder.specs.Notes.{Noted, open_request}
use Rattle.recorder.proofs.KeepLemmas.{notes_push}
use Rattle.recorder.proofs.NoteLemmas.{arrival_fields, arrival_fits, notes_length}
use Rattle.recorder.proofs.notes.Notes.note_arrival.Goals as goal

-- no request of the id is open, and there is room
Fits : ℕ → Noted → Type 0
Fits id v = (open_request id v.notes ≡ None) × (length v.notes < v.room)

pub push-requires : goal.push-requires
unfolding Fits
push-requires c =
    let fits = subst (Fits c.args.id) (sym c.self.view_is) (arrival_fits c.args.id c.args.device c.args.driver c.args.priority c.args.time c.args.self.now (sym c.in_default.ensures)) in
    subst (λ n. n < c.self.inside.ids.room) (notes_length c.self.inside.ids.ids c.self.inside.attempts.items c.self.invariant.size) fits.1

pub push_reserved-requires : goal.push_reserved-requires
unfolding Fits
push_reserved-requires c =
    let fits = subst (Fits c.args.id) (sym c.self.view_is) (arrival_fits c.args.id c.args.device c.args.driver c.args.priority c.args.time c.args.self.now (sym c.in_default.ensures)) in
    let lt = subst (λ n. n < c.self.inside.ids.room) (notes_length c.self.inside.ids.ids c.self.inside.attempts.items c.self.invariant.size) fits.1 in
    let size = c.self.invariant.size in
    let room = c.self.invariant.room in
    omega arith

pub invariant_of-self : goal.invariant_of-self
unfolding Fits
invariant_of-self c =
    let fits = subst (Fits c.args.id) (sym c.self.view_is) (arrival_fits c.args.id c.args.device c.args.driver c.args.priority c.args.time c.args.self.now (sym c.in_default.ensures)) in
    let lt = subst (λ n. n < c.self.inside.ids.room) (notes_length c.self.inside.ids.ids c.self.inside.attempts.items c.self.invariant.size) fits.1 in
    rw (c.push.ensures, c.push_reserved.ensures.items, c.push_reserved.ensures.capacity)
    (arrival_fields c.self.inside.ids c.self.inside.attempts.items c.self.inside.attempts.cap c.args.id _ fits.0 lt c.self.invariant)

pub returns-clause-ok : goal.returns-clause-ok
returns-clause-ok c =
    rw (← c.self.view_is, c.max-self-inside.ensures, c.push.ensures, c.push_reserved.ensures.items, notes_push c.self.inside.ids.ids c.self.inside.attempts.items c.args.id _ c.self.invariant.size) refl
