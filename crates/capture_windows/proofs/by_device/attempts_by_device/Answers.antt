use Rattle.std.proofs.Common.{arith, take, get_or}
use Rattle.std.proofs.lemmas.List.{take_more}
use Rattle.capture_windows.proofs.GroupLemmas.{by_device_more, lists_length, no_attempt}
use Rattle.capture_windows.specs.Devices.{attempts_of}
use Rattle.capture_windows.proofs.by_device.attempts_by_device.Goals as goal

pub index_mut-requires : goal.index_mut-requires
index_mut-requires c =
    omega (arith, c.requires c.loop-attempt.attempt-index no_attempt c.loop-attempt-test.true, lists_length (λ d. attempts_of d (take c.loop-attempt.attempt-index c.args.attempts.now)) c.args.count c.loop-attempt.lists.items c.loop-attempt.invariant)

pub loop-attempt-preserved : goal.loop-attempt-preserved
loop-attempt-preserved c =
    let i = c.loop-attempt.attempt-index in
    rw (take_more c.args.attempts.now i no_attempt c.loop-attempt-test.true)
    (by_device_more c.args.count (take i c.args.attempts.now) (get_or c.args.attempts.now i no_attempt) c.loop-attempt.lists.items c.push.new.self c.index_mut.result.now c.loop-attempt.invariant (c.requires i no_attempt c.loop-attempt-test.true) c.index_mut.ensures.value c.in_ok-push.ensures.items)
