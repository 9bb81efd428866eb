use Rattle.std.proofs.Common.{◌≡◌, ◌+◌, ◌-◌, ap, arith, ◌∙◌, map, unwrap_or}
use Rattle.price_check.specs.Words.{instance_of_rows, pricing_of_rows, priced, is_open, allowed}
use Rattle.price_check.proofs.LeastLemmas.{least_of-next, unwrap_or-least_of}
use Rattle.price_check.proofs.payments.cheapest_within.Goals as goal

pub loop-round-preserved : goal.loop-round-preserved
loop-round-preserved c =
    let net = instance_of_rows c.args.net.now in
    record {
      least = least_of-next (priced net (pricing_of_rows c.args.prices.now) c.args.stay) (is_open net c.args.stay) (net.arrival c.args.stay) c.loop-round.round
          c.loop-round.least c.cheaper-least.result c.offer.result c.loop-round.invariant.arrived c.loop-round.invariant.least c.offer.ensures c.cheaper-least.ensures;
      arrived = omega (arith, c.loop-round.invariant.arrived);
    }

pub returns : goal.returns
returns c =
    let net = instance_of_rows c.args.net.now in
    let inv = c.loop-round.invariant in
    let from = net.arrival c.args.stay in
    let past : c.loop-round.round - from ≡ net.last c.args.stay + 1 - from = omega (arith, inv.arrived) in
    c.unwrap_or.ensures ∙ ap (λ o. unwrap_or o 0) (rw past at inv.least) ∙ unwrap_or-least_of (map (priced net (pricing_of_rows c.args.prices.now) c.args.stay) (allowed net c.args.stay))
