use Rattle.std.proofs.Common.{arith}
use Rattle.xpt_core.proofs.DeviceSoundLemmas.{few-sound}
use Rattle.xpt_core.proofs.devices.Devices.commands.Goals as goal

pub overflow_cast-result : goal.overflow_cast-result
overflow_cast-result c = omega (arith, few-sound c.self.inside c.self.invariant, c.self.inside.submissions.ok.0)
