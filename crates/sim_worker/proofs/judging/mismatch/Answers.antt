use Rattle.std.proofs.Common.{◌≡◌, ◌∙◌, ap, subst, take}
use Rattle.xpt_lock.specs.Receipts.{all_receipts, naming}
use Rattle.xpt_lock.specs.Seats.{Held}
use Rattle.sim_worker.proofs.RunListFacts.{get_is, take_one}
use Rattle.sim_worker.proofs.FaultLemmas.{none_names}
use Rattle.sim_worker.proofs.judging.mismatch.Goals as goal

pub loop-log-preserved : goal.loop-log-preserved
loop-log-preserved c =
    let all = c.args.logs.now in
    let i = c.loop-log.log-index in
    let log = c.log-item.result in
    let more = (take_one all i log (get_is all i log c.loop-log-test.true c.log-item.is)).1 in
    let same = c.deref.ensures.value ∙ ap (λ (h : Held). h.receipts) c.log.view_is in
    let none : naming c.args.place log.receipts ≡ 0 = subst (λ rs. naming c.args.place rs ≡ 0) same c.in_default.ensures.none in
    ap (λ hs. naming c.args.place (all_receipts hs)) more ∙ none_names c.args.place (take i all) log c.loop-log.invariant none
