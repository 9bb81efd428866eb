use Rattle.std.proofs.Common.{arith, ap, length, take}
use Rattle.std.proofs.lemmas.List.{length-take}
use Rattle.std.proofs.lemmas.List.Sums.{count_by-le-length, length-filter}
use Rattle.recorder.specs.NoteWindows.{is_kept}
use Rattle.recorder.proofs.staying.replace_by.Goals as goal

pub push_reserved-requires : goal.push_reserved-requires
push_reserved-requires c =
    let so_far = take c.loop-attempt.attempt-index c.args.going_on.now in
    let h = c.loop-attempt.invariant in
    let room = h.room in
    omega (arith, ap length h.items, length-filter is_kept so_far, count_by-le-length is_kept so_far, length-take c.loop-attempt.attempt-index c.args.going_on.now, c.loop-attempt-test.true)
