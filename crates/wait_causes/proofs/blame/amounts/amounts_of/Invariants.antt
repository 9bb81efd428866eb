use Rattle.std.proofs.Common.{◌≡◌, ◌<◌, ◌*◌, map, take, length, get_or, ℕ, Option}
use Rattle.std.specs.List.{range_with_len}
use Rattle.wait_causes.specs.BlameAmounts.{IsSmall, Amounts}
use Rattle.wait_causes.specs.BlameLists.{stays_in, who_in, AreTotals}
use Rattle.wait_causes.proofs.BlameAmountLemmas.{amounts_at}
use Rattle.wait_causes.proofs.blame.amounts.amounts_of.Given as goal

abbrev pub invariant-loop-stay : goal.invariant-loop-stay
invariant-loop-stay l = record {
  all : length l.amounts.items ≡ l.count;
  small : (k : ℕ) (d : Amounts) → k < l.count → IsSmall (l.stay-index * 4398046511104) (get_or l.amounts.items k d);
  are : (m : Option ℕ) → AreTotals l.explanation l.by m l.totals → l.amounts.items ≡ map (amounts_at (who_in l.explanation l.by) m l.by (take l.stay-index (stays_in l.explanation))) (range_with_len 0 l.count);
}
