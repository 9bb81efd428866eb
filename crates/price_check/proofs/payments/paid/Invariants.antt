use Rattle.std.proofs.Common.{◌≡◌, ◌-◌, ◌≤◌, ◌*◌, ◌^◌, map}
use Rattle.price_check.specs.Words.{MAX_WEIGHT, least, instance_of_rows, pricing_of_rows, priced, allowed}
use Rattle.price_check.specs.Rests.{IsNextWeight}
use Rattle.price_check.proofs.RestLemmas.{up_to}
use Rattle.price_check.proofs.payments.paid.Given as goal

abbrev pub invariant-loop-next : goal.invariant-loop-next
invariant-loop-next l =
    let net = instance_of_rows l.net in
    record {
      so_far : l.total ≡ up_to net (λ s. least (map (priced net (pricing_of_rows l.prices) s) (allowed net s))) l.weight;
      short : l.total ≤ 2 ^ 84 * l.weight;
      few : l.weight ≤ MAX_WEIGHT;
      next : IsNextWeight net l.weight net.stays l.next;
    }

abbrev pub decreases-loop-next : goal.decreases-loop-next
decreases-loop-next l = MAX_WEIGHT - l.weight
