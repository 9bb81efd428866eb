use Rattle.std.proofs.Common.{◌∙◌, arith}
use Rattle.slots.proofs.LevelLemmas.{ended_more, ended_all}
use Rattle.slots.proofs.levels.end_levels.Goals as goal

pub add_span-requires-clause-round : goal.add_span-requires-clause-round
add_span-requires-clause-round c = omega (arith, c.requires.round c.loop-level.level (omega arith) (omega arith), c.loop-level.invariant.size)

pub loop-level-preserved : goal.loop-level-preserved
loop-level-preserved c =
    let h = c.loop-level.invariant in
    record {
      still = λ none. omega arith;
      size = c.add_span.ensures.size ∙ h.size;
      total = omega (arith, c.add_span.ensures.total, h.total);
      tally = λ times is. ended_more c.args.clock c.args.begun.now c.args.from c.loop-level.level c.args.at times _ _ _ _ (omega arith) (h.tally times is) c.add_span.ensures.tally;
    }

pub returns-clause-tally : goal.returns-clause-tally
returns-clause-tally c = λ times is. ended_all c.args.clock c.args.begun.now c.args.from c.args.to c.loop-level.level c.args.at times _ _ (omega arith) (omega arith) c.loop-level.invariant.still (c.loop-level.invariant.tally times is)
