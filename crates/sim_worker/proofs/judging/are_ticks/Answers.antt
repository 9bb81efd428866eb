use Rattle.std.proofs.Common.{◌∙◌, sym, ap, arith}
use Rattle.std.specs.List.{list_all}
use Rattle.sim_worker.specs.Logs.{is_opening}
use Rattle.sim_worker.proofs.RunListFacts.{all_more, get_is, not_all, take_whole}
use Rattle.sim_worker.proofs.judging.are_ticks.Goals as goal

pub loop-receipt-preserved : goal.loop-receipt-preserved
loop-receipt-preserved c = all_more is_opening c.args.receipts.now _ c.receipt-item.result c.loop-receipt-test.true c.receipt-item.is c.loop-receipt.invariant (sym c.is_tick.ensures ∙ c.if-not-is_tick.false)

pub returns-then-not-is_tick : goal.returns-then-not-is_tick
returns-then-not-is_tick c = sym (not_all is_opening c.args.receipts.now _ c.receipt-item.result (get_is c.args.receipts.now _ c.receipt-item.result c.loop-receipt-test.true c.receipt-item.is) (sym c.if-not-is_tick.ensures))

pub returns : goal.returns
returns c = sym (ap (list_all is_opening) (sym (take_whole c.args.receipts.now _ (omega (arith, c.loop-receipt-test.false)))) ∙ c.loop-receipt.invariant)
