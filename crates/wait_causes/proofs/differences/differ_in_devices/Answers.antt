use Rattle.wait_causes.proofs.SameLemmas.{devices_tell}
use Rattle.wait_causes.proofs.differences.differ_in_devices.Goals as goal

pub returns-in-None : goal.returns-in-None
returns-in-None c = rw c.in-None.is (devices_tell c.args.before.now c.args.after.now c.ne.result c.ne.ensures)
