use Rattle.std.proofs.Common.{ap, ◌∙◌}
use Rattle.dev_queue.specs.Device.{is_ready}
use Rattle.xpt_core.proofs.RoomLemmas.{ready-state}
use Rattle.xpt_core.proofs.devices.Devices.is_ready.Goals as goal

pub returns : goal.returns
returns c =
    c.ready.ensures ∙ ap is_ready c.queue.ensures ∙ ready-state c.args.self.now.config c.args.self.now.rules.stays c.args.self.now.events c.args.device
