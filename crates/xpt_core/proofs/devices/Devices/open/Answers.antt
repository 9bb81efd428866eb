use Rattle.std.proofs.Common.{ap, map, arith, ◌∙◌}
use Rattle.xpt_core.specs.Device.{new_device}
use Rattle.xpt_core.proofs.DeviceSoundLemmas.{sound-open}
use Rattle.xpt_core.proofs.devices.Devices.open.Goals as goal

pub invariant_of-result : goal.invariant_of-result
invariant_of-result c =
    sound-open _ c.stays-stays.ensures.range c.in_ok-events.ensures.items c.in_ok-submissions.ensures.items
    (c.in_ok-queues.ensures ∙ ap (map (new_device c.stays-stays.result)) c.devices.ensures.same ∙ ap (λ n. map (new_device n) c.args.config.devices) c.stays-stays.ensures.same)
    c.none.ensures (omega (arith, c.in_ok-events.ensures.capacity, c.events.ensures.same)) (omega (arith, c.in_ok-submissions.ensures.capacity, c.stays-stays.ensures.same))
