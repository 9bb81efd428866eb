use Rattle.wait_causes.proofs.SameLemmas.{adapters_tell}
use Rattle.wait_causes.proofs.differences.differ_in_adapters.Goals as goal

pub returns : goal.returns
returns c = adapters_tell c.args.before.now c.args.after.now c.ne.result c.ne.ensures
