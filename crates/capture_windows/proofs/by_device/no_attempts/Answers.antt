use Rattle.std.proofs.Common.{◌≡◌, arith, []}
use Rattle.capture_windows.specs.Devices.{attempts_of}
use Rattle.capture_windows.proofs.GroupLemmas.{lists_more}
use Rattle.capture_windows.proofs.by_device.no_attempts.Goals as goal

pub loop-device-preserved : goal.loop-device-preserved
loop-device-preserved c = lists_more (λ d. attempts_of d []) c.loop-device._device c.loop-device.lists.items c.push.new.self.items c.new.result c.loop-device.invariant c.in_ok-push.ensures.items c.new.ensures.items

pub returns : goal.returns
returns c =
    let all : c.loop-device._device ≡ c.args.count = omega (arith, c.loop-device-test.false, c.loop-device.auto._device-end) in
    rw all at c.loop-device.invariant
