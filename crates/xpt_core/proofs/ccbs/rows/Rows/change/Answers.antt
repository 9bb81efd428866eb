use Rattle.std.proofs.Common.{arith, sym, ap, subst, ◌∙◌, Some, All, slice_get, vec_capacity}
use Rattle.cam_ccb.specs.Table.{Table}
use Rattle.xpt_core.specs.Change.{IsSmall, Ccb}
use Rattle.xpt_core.specs.Rows.{RowTable, rows_in}
use Rattle.xpt_core.proofs.TableLemmas.{small_at, row_at, flying_at, flying-fits, rows-event, sound-event}
use Rattle.xpt_core.proofs.ccbs.rows.Rows.change.Goals as goal

pub next_row-new-requires : goal.next_row-new-requires
next_row-new-requires c =
    subst IsSmall (sym (c.copied-old.ensures ∙ c.get.ensures.value))
    (small_at c.self.inside.slots c.self.inside.handles.items c.args.ccb c.in-Some.handle (subst (λ (t : RowTable). All IsSmall t.rows) (sym c.self.view_is) c.requires) (sym (ap (λ hs. slice_get hs c.args.ccb) c.deref.ensures.value) ∙ sym c.handle_at.ensures ∙ c.in-Some.is))

pub overflow_sub-self : goal.overflow_sub-self
overflow_sub-self c =
    let at = row_at c.self.inside.slots c.self.inside.handles.items c.args.ccb c.in-Some.handle (sym (ap (λ hs. slice_get hs c.args.ccb) c.deref.ensures.value) ∙ sym c.handle_at.ensures ∙ c.in-Some.is) in
    let is = at ∙ ap Some (sym (c.copied-old.ensures ∙ c.get.ensures.value)) in
    omega (arith, flying_at (rows_in c.self.inside.slots c.self.inside.handles.items) c.args.ccb c.copied-old.result is, c.flight.ensures.same, c.self.invariant.counted)

pub overflow_add-self : goal.overflow_add-self
overflow_add-self c =
    let at = row_at c.self.inside.slots c.self.inside.handles.items c.args.ccb c.in-Some.handle (sym (ap (λ hs. slice_get hs c.args.ccb) c.deref.ensures.value) ∙ sym c.handle_at.ensures ∙ c.in-Some.is) in
    let is = at ∙ ap Some (sym (c.copied-old.ensures ∙ c.get.ensures.value)) in
    omega (arith, flying-fits c.self.inside.slots c.self.inside.handles.items _ _ c.flight.result c.flight-2.result c.args.ccb c.copied-old.result c.next_row-new.result c.self.invariant is c.flight.ensures.same c.flight-2.ensures.same)

pub invariant_of-self : goal.invariant_of-self
invariant_of-self c =
    let at = row_at c.self.inside.slots c.self.inside.handles.items c.args.ccb c.in-Some.handle (sym (ap (λ hs. slice_get hs c.args.ccb) c.deref.ensures.value) ∙ sym c.handle_at.ensures ∙ c.in-Some.is) in
    let is = at ∙ ap Some (sym (c.copied-old.ensures ∙ c.get.ensures.value)) in
    sound-event c.self.inside.slots c.put.new.slots c.self.inside.handles.items _ c.self.inside.in_flight c.flight.result c.flight-2.result c.in-Some.handle c.copied-old.result c.next_row-new.result c.args.ccb
    c.self.invariant c.put.ensures.updates (sym (ap (λ hs. slice_get hs c.args.ccb) c.deref.ensures.value) ∙ sym c.handle_at.ensures ∙ c.in-Some.is) (c.copied-old.ensures ∙ c.get.ensures.value) c.put.ensures.held c.put.ensures.rest c.flight.ensures.same c.flight-2.ensures.same
    (omega (arith, flying_at (rows_in c.self.inside.slots c.self.inside.handles.items) c.args.ccb c.copied-old.result is, c.flight.ensures.same, c.self.invariant.counted))

pub returns : goal.returns
returns c =
    rw (← c.self.view_is, ap (λ (t : Table Ccb). t.capacity) c.put.ensures.rest)
    (ap (λ rs. let t : RowTable = record { rows = rs; slots = c.self.inside.slots.capacity; room = vec_capacity c.self.inside.handles } in t)
    (rows-event c.self.inside.slots c.put.new.slots c.self.inside.handles.items _ c.self.inside.in_flight c.in-Some.handle c.copied-old.result c.next_row-new.result c.args.ccb c.args.event.now
    c.self.invariant c.put.ensures.updates (sym (ap (λ hs. slice_get hs c.args.ccb) c.deref.ensures.value) ∙ sym c.handle_at.ensures ∙ c.in-Some.is) (c.copied-old.ensures ∙ c.get.ensures.value) c.next_row-new.ensures))
