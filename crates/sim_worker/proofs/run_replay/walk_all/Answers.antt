use Rattle.std.proofs.Common.{◌∙◌, sym, arith, length-set}
use Rattle.sim_worker.proofs.RunListFacts.{there_is, get_is}
use Rattle.sim_worker.proofs.PassLemmas.{one_more_behind, still_ahead}
use Rattle.sim_worker.proofs.run_replay.walk_all.Goals as goal

pub loop-i-preserved : goal.loop-i-preserved
loop-i-preserved c = record {
  same = length-set c.loop-i.walks c.loop-i.i c.in-Some.next ∙ c.loop-i.invariant.same;
  behind = λ of rising on. one_more_behind c.args.script.now c.args.logs.now _ c.loop-i.walks c.loop-i.i c.index-logs-i.result c.in-Some.next c.loop-i-test.true c.index-logs-i.is
      (λ d name.
      let at = get_is c.args.logs.now c.loop-i.i c.index-logs-i.result c.loop-i-test.true c.index-logs-i.is in
      c.in-Some.ensures.fits d name of (rising c.loop-i.i c.index-logs-i.result at) (on c.loop-i.i d c.index-logs-i.result c.walk_at-walk.result at (sym (c.loop-i.invariant.ahead c.loop-i.i (omega arith)) ∙ c.walk_at-walk.ensures) name))
      (c.loop-i.invariant.behind of rising on);
  ahead = still_ahead c.loop-i.walks c.args.walks.now c.loop-i.i c.in-Some.next c.loop-i.invariant.ahead;
}

pub returns-clause-on : goal.returns-clause-on
returns-clause-on c = λ _ of rising on i d h w at there name. c.loop-i.invariant.behind of rising on i d h w (omega (arith, there_is c.args.logs.now i h at, c.loop-i-test.false)) at there name

pub returns-in_default-clause-off : goal.returns-in_default-clause-off
returns-in_default-clause-off c = λ _ of rising on all.
    let log = c.index-logs-i.result in
    let at = get_is c.args.logs.now c.loop-i.i log c.loop-i-test.true c.index-logs-i.is in
    let none = c.in_default.ensures.none in
    none.2 of (rising c.loop-i.i log at) (on c.loop-i.i none.0 log c.walk_at-walk.result at (sym (c.loop-i.invariant.ahead c.loop-i.i (omega arith)) ∙ c.walk_at-walk.ensures) none.1) (all c.loop-i.i log at none.0 none.1)
