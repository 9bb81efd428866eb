use Rattle.std.proofs.Common.{arith}
use Rattle.wait_causes.specs.Keys.{is_pair}
use Rattle.wait_causes.specs.Pairs.{pairs_at}
use Rattle.wait_causes.proofs.PairLemmas.{joined, paired_end}
use Rattle.wait_causes.proofs.PartLemmas.{rows_step}
use Rattle.wait_causes.proofs.pairs.paired.Goals as goal

pub loop-number-preserved : goal.loop-number-preserved
loop-number-preserved c =
    let same = is_pair c.args.by c.args.names_before.now c.args.names_after.now in
    rows_step (pairs_at same c.args.before.now c.args.after.now) c.loop-number.rows.items c.push_alone.new.rows.items c.loop-number.number c.loop-number.invariant
    (joined same c.args.before.now c.args.after.now c.loop-number.rows.items c.push_pair.new.rows.items c.push_alone.new.rows.items c.loop-number.number
    (rw c.row_at-row.ensures at c.in_ok-push_pair.ensures) (rw c.row_at-other.ensures at c.in_ok-push_alone.ensures))

pub returns : goal.returns
returns c =
    paired_end (is_pair c.args.by c.args.names_before.now c.args.names_after.now) c.args.before.now c.args.after.now c.loop-number.rows.items c.loop-number.number c.loop-number.invariant
    (omega (arith, c.loop-number-test.false, c.loop-number.auto.number-end, c.max-count.ensures, c.numbers.ensures.same, c.numbers-2.ensures.same))
