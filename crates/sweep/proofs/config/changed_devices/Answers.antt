use Rattle.std.proofs.Common.{◌≡◌, ◌∙◌, sym}
use Rattle.sweep.proofs.ChangeLemmas.{devices_none, devices_more}
use Rattle.sweep.proofs.config.changed_devices.Goals as goal

pub loop-number-init : goal.loop-number-init
loop-number-init c = c.new-all.ensures.items ∙ sym (devices_none c.args.changes.now)

pub loop-number-preserved : goal.loop-number-preserved
loop-number-preserved c =
    (rw c.device_openings.ensures at c.in_ok-push.ensures.items)
    ∙ devices_more c.args.changes.now c.loop-number.all.items c.args.devices.now c.loop-number.number _ c.loop-number-test.true c.loop-number.invariant
