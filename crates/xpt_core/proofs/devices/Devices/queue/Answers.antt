use Rattle.std.proofs.Common.{length, ap, sym, subst, ◌<◌, ◌∙◌}
use Rattle.xpt_core.specs.Device.{device_state}
use Rattle.xpt_core.specs.Transport.{Transport}
use Rattle.xpt_core.proofs.DeviceSoundLemmas.{queue-within, queue-state}
use Rattle.xpt_core.proofs.devices.Devices.queue.Goals as goal

pub index-requires : goal.index-requires
index-requires c =
    queue-within c.self.inside c.args.device c.self.invariant (subst (λ (t : Transport). c.args.device < length t.config.devices) (sym c.self.view_is) c.requires)

pub returns : goal.returns
returns c =
    queue-state c.self.inside c.args.device c.index.result.now c.self.invariant (subst (λ (t : Transport). c.args.device < length t.config.devices) (sym c.self.view_is) c.requires) c.index.ensures
    ∙ ap (λ (t : Transport). device_state t.config t.rules.stays t.events c.args.device) c.self.view_is
