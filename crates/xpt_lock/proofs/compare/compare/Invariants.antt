use Rattle.std.proofs.Common.{◌≡◌, length, take}
use Rattle.xpt_lock.specs.Receipts.{all_receipts, marks, AreConsistent}
use Rattle.xpt_lock.proofs.compare.compare.Given as goal

abbrev pub invariant-loop-place : goal.invariant-loop-place
invariant-loop-place g l = record {
  consistent : AreConsistent l.fn.due (take l.place l.fn.seats);
  marked : l.named ≡ marks (length l.fn.due) (all_receipts (take l.place l.fn.seats));
}
