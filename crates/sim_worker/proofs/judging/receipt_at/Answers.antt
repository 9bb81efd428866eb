use Rattle.std.proofs.Common.{◌∙◌, ap, take}
use Rattle.xpt_lock.specs.Receipts.{naming}
use Rattle.sim_worker.proofs.RunListFacts.{get_is, take_one}
use Rattle.sim_worker.proofs.FaultLemmas.{none_names_more, other_place}
use Rattle.sim_worker.proofs.judging.receipt_at.Goals as goal

pub loop-receipt-preserved : goal.loop-receipt-preserved
loop-receipt-preserved c =
    let all = c.args.receipts.now in
    let i = c.loop-receipt.receipt-index in
    let r = c.receipt-item.result in
    let more = (take_one all i r (get_is all i r c.loop-receipt-test.true c.receipt-item.is)).1 in
    ap (naming c.args.place) more ∙ none_names_more c.args.place (take i all) r c.loop-receipt.invariant (other_place r.at c.args.place c.if-receipt-place.false)
