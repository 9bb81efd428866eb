use Rattle.wait_causes.proofs.SameLemmas.{weights_tell}
use Rattle.wait_causes.proofs.differences.differ_in_weights.Goals as goal

pub returns : goal.returns
returns c = weights_tell c.args.before.now c.args.after.now c.ne.result c.ne.ensures
