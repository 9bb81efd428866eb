use Rattle.std.proofs.Common.{ℕ, List, Option, slice_index, subst}
use Rattle.round_net.specs.Rows.{instance_of_rows, live_of_rows}
use Rattle.orders.specs.Worth.{IsFilled}
use Rattle.orders.proofs.WorthLemmas.{AreWorths-more, AreWorths-small}
use Rattle.orders.proofs.pricing.closed_prices.Goals as goal

pub loop-device-preserved : goal.loop-device-preserved
loop-device-preserved c =
    let net = instance_of_rows c.args.net.now in
    let f = slice_index c.args.schedule.now in
    let firsts : List (Option ℕ) = c.in_ok-firsts.firsts.items in
    AreWorths-more net f c.loop-device.device firsts c.loop-device.worth.items c.fill.new.worth.items c.requires.sent c.in_ok-firsts.ensures.each c.loop-device.invariant (subst (λ (xs : List (Option ℕ)). IsFilled net f c.loop-device.device xs c.loop-device.worth.items c.fill.new.worth.items) c.deref-in-loop-device-2.ensures.value c.fill.ensures)

pub listed-requires-clause-small : goal.listed-requires-clause-small
listed-requires-clause-small c =
    let net = instance_of_rows c.args.net.now in
    AreWorths-small net (live_of_rows c.args.net.now) (slice_index c.args.schedule.now) c.loop-device.device c.loop-device.worth.items c.devices-device-end.ensures.sound c.loop-device.invariant
