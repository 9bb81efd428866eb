use Rattle.std.proofs.Common.{arith}
use Rattle.sim_queue.proofs.RowLemmas.{not_absent}
use Rattle.sim_queue.proofs.rows.row_of.Goals as goal

pub unreachable-requires : goal.unreachable-requires
unreachable-requires c = not_absent c.args.rows.now c.args.device c.requires (λ k d inside. c.loop-at.invariant k d (omega arith))
