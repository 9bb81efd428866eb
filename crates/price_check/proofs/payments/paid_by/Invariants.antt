use Rattle.std.proofs.Common.{◌≡◌, ◌≤◌, ◌*◌, ◌^◌, cond, ◌==◌, map}
use Rattle.price_check.specs.Words.{sum_below, least, instance_of_rows, pricing_of_rows, priced, allowed}
use Rattle.price_check.proofs.payments.paid_by.Given as goal

abbrev pub invariant-loop-stay : goal.invariant-loop-stay
invariant-loop-stay l =
    let net = instance_of_rows l.net in
    record {
      so_far : l.total ≡ sum_below l.stay (λ s. cond (net.weight s == l.weight) (least (map (priced net (pricing_of_rows l.prices) s) (allowed net s))) 0);
      short : l.total ≤ 2 ^ 64 * l.stay;
    }
