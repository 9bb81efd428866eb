use Rattle.std.proofs.Common.{◌≡◌, ◌≤◌, ◌-◌, map, filter}
use Rattle.std.specs.List.{range_with_len}
use Rattle.price_check.specs.Words.{instance_of_rows, pricing_of_rows, priced, is_open}
use Rattle.price_check.proofs.LeastLemmas.{least_of}
use Rattle.price_check.proofs.payments.cheapest_within.Given as goal

abbrev pub invariant-loop-round : goal.invariant-loop-round
invariant-loop-round l =
    let net = instance_of_rows l.net in
    let from = net.arrival l.stay in
    record {
      least : l.least ≡ least_of (map (priced net (pricing_of_rows l.prices) l.stay) (filter (is_open net l.stay) (range_with_len from (l.round - from))));
      arrived : from ≤ l.round;
    }
