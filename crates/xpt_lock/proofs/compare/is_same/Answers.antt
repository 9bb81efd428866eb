use Rattle.std.proofs.Common.{◌≡◌, true, sym, subst, ◌∙◌}
use Rattle.xpt_lock.proofs.SameLemmas.{same_receipt}
use Rattle.xpt_lock.specs.Receipts.{Receipt}
use Rattle.xpt_lock.specs.contracts.receipt.ReceiptPartialEq.TheImpl as receipts
use Rattle.xpt_lock.specs.contracts.receipt.ReceiptEq.TheImpl.Laws.{laws-law}
use Rattle.xpt_lock.proofs.compare.is_same.Goals as goal

pub returns : goal.returns
returns c = (
  (λ e. same_receipt _ _ (sym c.eq.ensures ∙ e)),
  λ e. c.eq.ensures ∙ subst (λ (r : Receipt). receipts.ghosts.eq c.args.one.now r ≡ true) e (laws-law.refl c.args.one.now),
)
