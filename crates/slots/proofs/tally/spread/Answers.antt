use Rattle.std.proofs.Common.{◌+◌, ◌*◌, arith}
use Rattle.slots.specs.Gaps.{round_at}
use Rattle.slots.proofs.TallyLemmas.{IsSpreading-more, round-later}
use Rattle.slots.proofs.tally.spread.Goals as goal

pub loop-left-preserved : goal.loop-left-preserved
loop-left-preserved c =
    let h = c.loop-left.invariant in
    let later = round-later c.args.clock.span c.args.clock.begin c.loop-left.first (c.args.from + c.args.count * c.args.clock.service) c.requires.span (omega (arith, h.reach)) in
    IsSpreading-more c.args.clock c.args.from c.args.count c.args.row.now c.loop-left.row c.add_to_round.new.row c.loop-left.first c.loop-left.left c.within_round.result c.min-within.result (round_at c.args.clock.span c.args.clock.begin c.loop-left.first) h c.requires.span c.within_round.ensures.within c.min-within.ensures (omega arith) (omega (arith, later, c.requires.round, h.size)) c.add_to_round.ensures
