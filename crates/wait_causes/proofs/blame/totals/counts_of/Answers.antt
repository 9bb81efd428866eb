use Rattle.std.proofs.Common.{◌≡◌, ◌+◌, ◌∙◌, ap, sym, refl, arith, cond, get_or, Bool, ℕ, None}
use Rattle.wait_causes.proofs.BlameTotalLemmas.{counts_none, counts_more}
use Rattle.wait_causes.proofs.blame.totals.counts_of.Goals as goal
use Rattle.wait_causes.proofs.blame.totals.counts_of.Goals.{then-is_who, else-is_who}

pub loop-number-init : goal.loop-number-init
loop-number-init c = counts_none c.args.by c.args.list.now c.in_ok-counts.counts.items c.in_ok-counts.ensures.items

pub loop-number-preserved : goal.loop-number-preserved
loop-number-preserved c =
    counts_more c.args.by c.args.list.now c.loop-number.number-index c.loop-number.counts.items c.push.new.self.items c.loop-number.so_far c.if-is_who.so_far (get_or c.args.list.now c.loop-number.number-index None) None
    c.loop-number.invariant c.in_ok-push.ensures.items c.loop-number-test.true refl
    (elim c.if-is_who.branch [
      | then-is_who w ↦ w.so_far-is ∙ ap (λ (b : Bool). c.loop-number.so_far + cond b 1 0) (sym w.if-is_who.true ∙ c.is_who.ensures)
      | else-is_who w ↦ w.so_far-is ∙ plain c.loop-number.so_far ∙ ap (λ (b : Bool). c.loop-number.so_far + cond b 1 0) (sym w.if-is_who.false ∙ c.is_who.ensures)
    ])
  where
    plain : (n : ℕ) → n ≡ n + 0
    plain n = omega arith
