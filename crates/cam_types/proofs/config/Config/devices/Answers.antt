use Rattle.cam_types.proofs.ConfigLemmas.{few_devices}
use Rattle.cam_types.proofs.config.Config.devices.Goals as goal

pub returns-clause-few : goal.returns-clause-few
returns-clause-few c = rw c.deref.ensures.value (few_devices _ c.self.invariant)
