use Rattle.std.proofs.Common.{◌≡◌, ◌+◌, ◌-◌, ◌<◌, arith, length}
use Rattle.recording_file.proofs.RoomLemmas.{caps_more}
use Rattle.recording_file.proofs.room.lay_caps.Goals as goal

pub loop-left-preserved : goal.loop-left-preserved
loop-left-preserved c =
    let some = c.loop-left-test.true in
    let bound = c.loop-left.invariant.bound in
    let left = c.loop-left.left - 1 in
    let next : c.loop-left.left ≡ left + 1 = omega arith in
    let inside : left < length c.args.caps.now = omega arith in
    record { bound = omega arith; laid = caps_more c.args.rounds left c.args.caps.now _ c.args.cells.now c.loop-left.cells c.lay_cap.new.cells inside (rw next at c.loop-left.invariant.laid) c.lay_cap.ensures }

pub returns : goal.returns
returns c =
    let none : c.loop-left.left ≡ 0 = (let t = c.loop-left-test.false in omega arith) in
    rw none at c.loop-left.invariant.laid
