use Rattle.std.proofs.Common.{◌∙◌, sym, ap, arith}
use Rattle.std.specs.List.{list_all}
use Rattle.sim_worker.specs.Runs.{is_over}
use Rattle.sim_worker.proofs.RunListFacts.{all_more, get_is, not_all, take_whole}
use Rattle.sim_worker.proofs.endings.are_over.Goals as goal

pub loop-row-preserved : goal.loop-row-preserved
loop-row-preserved c = all_more (is_over c.args.now) c.args.rows.now _ c.row-item.result c.loop-row-test.true c.row-item.is c.loop-row.invariant (sym c.is_over.ensures ∙ c.if-not-is_over.false)

pub returns-then-not-is_over : goal.returns-then-not-is_over
returns-then-not-is_over c = sym (not_all (is_over c.args.now) c.args.rows.now _ c.row-item.result (get_is c.args.rows.now _ c.row-item.result c.loop-row-test.true c.row-item.is) (sym c.if-not-is_over.ensures))

pub returns : goal.returns
returns c = sym (ap (list_all (is_over c.args.now)) (sym (take_whole c.args.rows.now _ (omega (arith, c.loop-row-test.false)))) ∙ c.loop-row.invariant)
