use Rattle.std.proofs.Common.{◌<◌, List, length, ap, arith}
use Rattle.recording_file.specs.Caps.{is_cap}
use Rattle.recording_file.specs.declared.cap.Cap.{Cap}
use Rattle.recording_file.specs.Counts.{counts_of}
use Rattle.conversions.proofs.RescheduleLemmas.{list_all-prefixed}
use Rattle.conversions.proofs.rescheduling.add_caps.Goals as goal

pub add_cap-requires-clause-next : goal.add_cap-requires-clause-next
add_cap-requires-clause-next c =
    let r = c.args.recording.now in
    let n = c.loop-cap.cap-index in
    let same = c.caps-cap-items.ensures.same in
    let less : n < length r.caps = omega (arith, c.loop-cap-test.true, ap (λ (xs : List Cap). length xs) same) in
    rw (c.loop-cap.invariant, same) (list_all-prefixed (is_cap r.rounds (counts_of r.config)) r.caps n _ c.caps-cap-items.ensures.kept.head.caps less)
