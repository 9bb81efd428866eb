use Rattle.std.proofs.Common.{◌∙◌, ap, arith, cond, get_or}
use Rattle.slots.proofs.LevelLemmas.{in_part_all}
use Rattle.slots.proofs.levels.begin_levels.Goals as goal

pub returns-clause-each : goal.returns-clause-each
returns-clause-each c = λ k. c.loop-level.invariant.each k ∙ ap (λ b. cond b c.args.at (get_or c.args.begun.now k 0)) (in_part_all c.args.from c.args.to c.loop-level.level k (omega arith) (omega arith) c.loop-level.invariant.still)
