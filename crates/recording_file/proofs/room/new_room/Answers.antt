use Rattle.std.proofs.Common.{sym, ap, ◌∙◌, length}
use Rattle.recording_file.proofs.RoomLemmas.{room_of, written_back}
use Rattle.recording_file.proofs.room.new_room.Goals as goal

pub returns : goal.returns
returns c =
    let held = rw c.deref_mut.ensures.value at c.lay_caps.ensures in
    let all = room_of c.args.rounds c.args.config.now c.args.caps.now c.lay_caps.new.cells (held c.args.config.now c.in_ok-cells.ensures) in
    let same = ap length c.deref_mut.ensures.value in
    rw (written_back c.in_ok-cells.cells.len c.lay_caps.new.cells c.in_ok-cells.cells.items (c.lay_caps.auto.cells ∙ same) (sym c.deref_mut.ensures.len ∙ same)) all
