use Rattle.std.proofs.Common.{ℕ, Bool, nat_lt, slice_index}
use Rattle.std.proofs.lemmas.Bool.{lt-ltb, le-ltb}
use Rattle.capture.proofs.UsualLemmas.{numbers_more, numbers_same, numbers_all}
use Rattle.capture.proofs.median.numbers_where.Goals as goal
use Rattle.capture.proofs.median.numbers_where.Goals.{then-tests-round-gt0+in_ok-push, else-tests-round-gt0}

pub loop-round-preserved : goal.loop-round-preserved
loop-round-preserved c =
    let n = c.loop-round.round in
    let t : ℕ → Bool = λ round. nat_lt 0 (slice_index c.args.tests.now round) in
    elim c.if-tests-round-gt0.branch [
      | then-tests-round-gt0+in_ok-push w ↦ rw w.numbers-is (numbers_more c.args.row.now t n c.loop-round.numbers.items _ c.loop-round.auto.round (lt-ltb 0 _ w.if-tests-round-gt0.true) c.loop-round.invariant w.in_ok-push.ensures.items)
      | else-tests-round-gt0 w ↦ rw w.numbers-is (numbers_same c.args.row.now t n c.loop-round.numbers.items c.loop-round.auto.round (le-ltb 0 _ w.if-tests-round-gt0.false) c.loop-round.invariant)
    ]

pub returns : goal.returns
returns c =
    let end = c.loop-round.auto.round-end in
    numbers_all c.args.row.now (λ round. nat_lt 0 (slice_index c.args.tests.now round)) c.loop-round.round c.loop-round.numbers.items c.loop-round-test.false (end c.requires.some) c.loop-round.invariant
