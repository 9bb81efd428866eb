use Rattle.std.proofs.Common.{◌≡◌, ◌≤◌, ◌+◌, arith}
use Rattle.recording_file.specs.Room.{cell_of}
use Rattle.recording_file.proofs.RoomLemmas.{cap_laid}
use Rattle.recording_file.proofs.room.lay_cap.Goals as goal

pub returns : goal.returns
returns c = λ f h.
    let cap = c.args.cap in
    let rounds = c.args.rounds in
    let start = c.cell_of-start.ensures.place in
    let last = c.cell_of-end.ensures.place in
    let low = c.loop-at.auto.at in
    let high = c.loop-at.auto.at-end in
    let done = c.loop-at-test.false in
    let order : cell_of rounds cap.part cap.first ≤ cell_of rounds cap.part cap.last = (let k = c.requires.order in omega arith) in
    let end : c.loop-at.at ≡ cell_of rounds cap.part cap.last + 1 = omega arith in
    let laid = rw (start, end) at c.loop-at.invariant in
    cap_laid rounds cap c.args.cells.now c.loop-at.cells f c.requires.part c.requires.some c.requires.order c.requires.last laid h
