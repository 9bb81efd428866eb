use Rattle.std.proofs.Common.{sym, ◌∙◌, arith}
use Rattle.round_net.specs.Ends.{cause_in}
use Rattle.wait_causes.specs.Freezes.{waits_for}
use Rattle.wait_causes.proofs.FreezeLemmas.{count_here, count_next, count_none}
use Rattle.wait_causes.proofs.freeze_list.rounds_for.Goals as goal
use Rattle.wait_causes.proofs.freeze_list.rounds_for.Goals.{then-waits_for, else-waits_for}

pub loop-round-preserved : goal.loop-round-preserved
loop-round-preserved c = elim c.if-waits_for.branch [
  | then-waits_for w ↦ rw w.rounds-is (record {
    left = count_here (waits_for (cause_in c.args.table.now.config c.args.table.now.events) c.args.cause c.args.stay.now) c.loop-round.round c.args.end c.loop-round.rounds _ c.loop-round-test.true (sym c.waits_for.ensures ∙ w.if-waits_for.true) c.loop-round.invariant.left;
    small = omega (arith, c.loop-round.invariant.small);
  })
  | else-waits_for w ↦ rw w.rounds-is (record {
    left = count_next (waits_for (cause_in c.args.table.now.config c.args.table.now.events) c.args.cause c.args.stay.now) c.loop-round.round c.args.end c.loop-round.rounds _ c.loop-round-test.true (sym c.waits_for.ensures ∙ w.if-waits_for.false) c.loop-round.invariant.left;
    small = omega (arith, c.loop-round.invariant.small);
  })
]

pub returns : goal.returns
returns c = count_none (waits_for (cause_in c.args.table.now.config c.args.table.now.events) c.args.cause c.args.stay.now) c.loop-round.round c.args.end c.loop-round.rounds _ c.loop-round-test.false c.loop-round.invariant.left
