use Rattle.std.proofs.Common.{◌≡◌, ◌-◌, arith, slice_index}
use Rattle.recording_file.proofs.RunLemmas.{none_more, none_all, found_next}
use Rattle.capture.proofs.runs.run_last.Goals as goal

pub returns-then-row-first : goal.returns-then-row-first
returns-then-row-first c = found_next (slice_index c.args.row.now) c.args.rounds c.args.first c.loop-more.more c.loop-more-test.true c.loop-more.invariant c.if-row-first.true

pub loop-more-preserved : goal.loop-more-preserved
loop-more-preserved c = none_more (slice_index c.args.row.now) c.args.first c.loop-more.more c.loop-more.invariant c.if-row-first.false

pub returns : goal.returns
returns c =
    let all : c.loop-more.more ≡ c.args.rounds - c.args.first = omega (arith, c.loop-more-test.false, c.loop-more.auto.more-end) in
    none_all (slice_index c.args.row.now) c.args.rounds c.args.first (rw all at c.loop-more.invariant)
