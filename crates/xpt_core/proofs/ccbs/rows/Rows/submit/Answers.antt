use Rattle.std.proofs.Common.{arith, ap, sym, subst, refl, ◌<◌, Some, length, vec_capacity}
use Rattle.std.proofs.lemmas.List.{length-map}
use Rattle.cam_ccb.specs.Table.{Table, find}
use Rattle.xpt_core.specs.Change.{fresh, Ccb}
use Rattle.xpt_core.specs.Rows.{RowTable}
use Rattle.xpt_core.proofs.TableLemmas.{table-taken, rows-taken}
use Rattle.xpt_core.proofs.ccbs.rows.Rows.submit.Goals as goal

pub invariant_of-self : goal.invariant_of-self
invariant_of-self c =
    let room = subst (λ (t : RowTable). length t.rows < t.room) (sym c.self.view_is) c.requires.room in
    rw (c.push_reserved.ensures.items, c.push_reserved.ensures.capacity)
    (table-taken c.self.inside.slots c.take-handle.new.slots c.self.inside.handles.items _ _ c.take-handle.result (Some (fresh c.args.submission))
    c.self.invariant c.take-handle.ensures.updates c.take-handle.ensures.number refl refl c.take-handle.ensures.held
    (ap (λ (t : Table Ccb). t.taken) c.take-handle.ensures.rest)
    (omega (arith, room, length-map c.self.inside.handles.items (find c.self.inside.slots))))

pub returns : goal.returns
returns c =
    rw (← c.self.view_is, c.push_reserved.ensures.items, c.push_reserved.ensures.capacity, ap (λ (t : Table Ccb). t.capacity) c.take-handle.ensures.rest)
    (ap (λ rs. let t : RowTable = record { rows = rs; slots = c.self.inside.slots.capacity; room = vec_capacity c.self.inside.handles } in t)
    (rows-taken c.self.inside.slots c.take-handle.new.slots c.self.inside.handles.items _ _ c.take-handle.result (Some (fresh c.args.submission))
    c.self.invariant c.take-handle.ensures.updates c.take-handle.ensures.number))
