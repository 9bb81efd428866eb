use Rattle.xpt_carry.proofs.QueueLaws.{queues_kept}
use Rattle.xpt_carry.proofs.laws.queues_are_kept.Goals as goal

pub returns : goal.returns
returns c = queues_kept
