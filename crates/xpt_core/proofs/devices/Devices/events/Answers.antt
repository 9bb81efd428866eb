use Rattle.std.proofs.Common.{arith, length, ap}
use Rattle.xpt_core.proofs.DeviceSoundLemmas.{short-sound}
use Rattle.xpt_core.proofs.devices.Devices.events.Goals as goal

pub returns-clause-short : goal.returns-clause-short
returns-clause-short c = omega (arith, ap length c.deref.ensures.value, short-sound c.self.inside c.self.invariant)
