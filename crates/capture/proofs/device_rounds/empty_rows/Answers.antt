use Rattle.std.proofs.Common.{◌≡◌, arith}
use Rattle.capture.proofs.DeviceLemmas.{rows_push, zeros}
use Rattle.capture.proofs.device_rounds.empty_rows.Goals as goal

pub loop-device-preserved : goal.loop-device-preserved
loop-device-preserved c =
    rw c.in_ok-push.ensures.items (rows_push (λ d r. 0) c.loop-device._device c.args.last c.loop-device.rows.items c.in_ok-vec.field-0 c.loop-device.invariant (zeros c.args.last c.in_ok-vec.field-0.items (c.in_ok-vec.ensures.items_if_clones_equal (λ y is. is))))

pub returns : goal.returns
returns c =
    let all : c.loop-device._device ≡ c.args.devices = omega (arith, c.loop-device-test.false, c.loop-device.auto._device-end) in
    rw all at c.loop-device.invariant
