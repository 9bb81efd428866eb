use Rattle.std.proofs.Common.{ap, ◌∙◌, slice_get}
use Rattle.dev_queue.specs.Device.{Device}
use Rattle.xpt_core.proofs.DeviceSoundLemmas.{first-state}
use Rattle.xpt_core.proofs.devices.Devices.first.Goals as goal

pub returns : goal.returns
returns c =
    c.first.ensures.value ∙ ap (λ (q : Device). slice_get q.waiting 0) c.queue.ensures
    ∙ first-state c.args.self.now.config c.args.self.now.rules.stays c.args.self.now.events c.args.device
