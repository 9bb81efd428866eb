use Rattle.std.proofs.Common.{refl, sym, subst, length, arith}
use Rattle.sim_worker.specs.LiveRuns.{rows}
use Rattle.sim_worker.specs.Logs.{HasDoneAll}
use Rattle.sim_worker.specs.Walks.{IsThrough}
use Rattle.sim_worker.proofs.RunListFacts.{get_is, get_there, there_is}
use Rattle.sim_worker.proofs.PassLemmas.{each_more}
use Rattle.sim_worker.proofs.WalkLemmas.{done_all, through_done}
use Rattle.sim_worker.proofs.endings.are_done.Goals as goal

pub loop-i-preserved : goal.loop-i-preserved
loop-i-preserved c = λ events now walked placed.
    let s = c.args.script.now in
    let log = c.index-logs-i.result in
    let at = get_is c.args.logs.now c.loop-i.i log c.loop-i-test.true c.index-logs-i.is in
    let walk = get_there walked.0 c.loop-i.i (omega (arith, walked.1, c.loop-i-test.true)) in
    each_more (λ d h. HasDoneAll (rows s d) h.receipts events) c.args.logs.now c.loop-i.i log c.loop-i-test.true c.index-logs-i.is
    (λ d name. done_all s (rows s d) log.receipts events walk.0 (walked.2 c.loop-i.i d log walk.0 at walk.1 name).walk (λ j r there. placed c.loop-i.i j log r at there) (rw now at (c.is_done.ensures.done c.if-not-is_done.false d name)))
    (c.loop-i.invariant events now walked placed)

pub returns-then-not-is_done : goal.returns-then-not-is_done
returns-then-not-is_done c = record {
  done = λ e. absurd (cc);
  left = λ e events now all.
      let s = c.args.script.now in
      let log = c.index-logs-i.result in
      let at = get_is c.args.logs.now c.loop-i.i log c.loop-i-test.true c.index-logs-i.is in
      let one = c.if-not-is_done.ensures.left refl in
      one.2 (subst (λ n. IsThrough (rows s one.0) (length log.receipts) n) (sym now) (through_done (rows s one.0) log.receipts events (all c.loop-i.i log at one.0 one.1)));
}

pub returns : goal.returns
returns c = record {
  done = λ e events now walked placed i h at d name. c.loop-i.invariant events now walked placed i d h (omega (arith, there_is c.args.logs.now i h at, c.loop-i-test.false)) at name;
  left = λ e. absurd (cc);
}
