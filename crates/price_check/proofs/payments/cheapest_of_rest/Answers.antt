use Rattle.std.proofs.Common.{◌≡◌, ◌<◌, refl, ◌∙◌, arith, slice_index}
use Rattle.price_check.specs.Words.{instance_of_rows, cell, pricing_of_rows}
use Rattle.price_check.specs.Rests.{IsCheapest}
use Rattle.price_check.proofs.RestLemmas.{rest-at, least-of_rest, none-of_rest}
use Rattle.price_check.proofs.payments.cheapest_of_rest.Goals as goal

pub returns-then-round-eq0 : goal.returns-then-round-eq0
returns-then-round-eq0 c =
    let net = instance_of_rows c.args.net.now in
    let p = pricing_of_rows c.args.prices.now in
    let s = c.args.stay in
    let at : c.cell.result ≡ cell net.rounds (net.device s) (net.arrival s) = c.cell.ensures ∙ rw (c.rounds.ensures.same, c.device.ensures.same, c.arrival.ensures.same) refl in
    let rest : IsCheapest net p (net.weight s) (net.device s) (net.arrival s) (slice_index c.args.rests.now c.cell.result) =
    rest-at net p s c.cell.result c.args.rests.now c.requires.noted (rw c.device.ensures.same at c.device.ensures.within) (rw c.arrival.ensures.same at c.arrival.ensures.first) c.requires.window c.requires.to_end at in
    none-of_rest net p s (rw c.if-round-eq0.true at rest) c.requires.to_end c.requires.window

pub returns : goal.returns
returns c =
    let net = instance_of_rows c.args.net.now in
    let p = pricing_of_rows c.args.prices.now in
    let s = c.args.stay in
    let at : c.cell.result ≡ cell net.rounds (net.device s) (net.arrival s) = c.cell.ensures ∙ rw (c.rounds.ensures.same, c.device.ensures.same, c.arrival.ensures.same) refl in
    let rest : IsCheapest net p (net.weight s) (net.device s) (net.arrival s) (slice_index c.args.rests.now c.cell.result) =
    rest-at net p s c.cell.result c.args.rests.now c.requires.noted (rw c.device.ensures.same at c.device.ensures.within) (rw c.arrival.ensures.same at c.arrival.ensures.first) c.requires.window c.requires.to_end at in
    let other = c.if-round-eq0.false in
    let some : 0 < slice_index c.args.rests.now c.cell.result = omega arith in
    c.price.ensures ∙ least-of_rest net p s (slice_index c.args.rests.now c.cell.result) rest c.requires.to_end c.requires.window some
