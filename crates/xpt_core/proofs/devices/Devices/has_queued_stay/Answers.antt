use Rattle.std.proofs.Common.{ap, ◌∙◌, is_some}
use Rattle.event_rules.specs.Stays.{first}
use Rattle.xpt_core.proofs.DeviceSoundLemmas.{some_entry}
use Rattle.xpt_core.proofs.devices.Devices.has_queued_stay.Goals as goal

pub returns : goal.returns
returns c = c.is_some.ensures ∙ ap is_some c.first.ensures ∙ some_entry (first c.args.self.now.events c.args.device)
