use Rattle.std.proofs.Common.{arith}
use Rattle.xpt_lock.proofs.ConsistentLemmas.{taken_none, misfit_by, ends_unless_it_stands, too_early, marked_already, receipt_by, seat_by, has_mark}
use Rattle.xpt_lock.proofs.compare.take_seat.Goals.{then-at-from-via-then-at-from, then-at-from-via-else-at-from+then-named-at}
use Rattle.xpt_lock.proofs.compare.take_seat.Goals as goal

pub loop-receipt-init : goal.loop-receipt-init
loop-receipt-init g c = taken_none _ _ _ c.requires.consistent c.requires.marked

pub returns-then-not-stands : goal.returns-then-not-stands
returns-then-not-stands g c =
    misfit_by _ _ _ _ c.index-seats-place.result _ _ _ _ c.loop-receipt.invariant c.requires.place c.index-seats-place.is c.receipts-receipts.ensures c.loop-receipt-test.true c.receipt-item.is
    (λ h is. ends_unless_it_stands _ _ h _ _ is c.if-not-stands.ensures)

pub bounds-named-at : goal.bounds-named-at
bounds-named-at g c = has_mark _ _ _ _ _ c.receipt-item.result c.loop-receipt.invariant c.if-not-stands.ensures

pub returns-then-at-from : goal.returns-then-at-from
returns-then-at-from g c = elim c.then-at-from.branch [
  | then-at-from-via-then-at-from w ↦
      misfit_by _ _ _ _ c.index-seats-place.result _ _ _ _ c.loop-receipt.invariant c.requires.place c.index-seats-place.is c.receipts-receipts.ensures c.loop-receipt-test.true c.receipt-item.is
      (too_early _ _ _ _ _ c.receipt-item.result c.loop-receipt.invariant w.if-at-from.true)
  | then-at-from-via-else-at-from+then-named-at w ↦
      misfit_by _ _ _ _ c.index-seats-place.result _ _ _ _ c.loop-receipt.invariant c.requires.place c.index-seats-place.is c.receipts-receipts.ensures c.loop-receipt-test.true c.receipt-item.is
      (marked_already _ _ _ _ _ c.receipt-item.result c.loop-receipt.invariant c.if-not-stands.ensures w.if-named-at.true)
]

pub bounds-named-at-in-loop-receipt : goal.bounds-named-at-in-loop-receipt
bounds-named-at-in-loop-receipt g c = has_mark _ _ _ _ _ c.receipt-item.result c.loop-receipt.invariant c.if-not-stands.ensures

pub loop-receipt-preserved : goal.loop-receipt-preserved
loop-receipt-preserved g c =
    receipt_by _ _ _ _ _ _ c.receipt-item.result c.loop-receipt.invariant c.loop-receipt-test.true c.receipt-item.is c.if-not-stands.ensures (omega (arith, c.if-at-from.false)) c.if-named-at.false

pub returns : goal.returns
returns g c = seat_by _ _ _ _ c.index-seats-place.result _ _ _ c.loop-receipt.invariant c.requires.place c.index-seats-place.is c.receipts-receipts.ensures (omega (arith, c.loop-receipt-test.false))
