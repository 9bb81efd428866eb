use Rattle.std.proofs.Common.{◌≡◌, ◌∙◌, [], ◌∷◌, refl, arith, slice_index}
use Rattle.price_check.specs.Words.{rows, adapter, adapter_resource, instance_of_rows, cell}
use Rattle.round_net.proofs.CellLemmas.{cell_room}
use Rattle.price_check.specs.Tally.{IsCounted}
use Rattle.price_check.proofs.TallyLemmas.{IsPlaced, counted_none, counted_more, few_here, device_place, adapter_place, adapter_new, tallied}
use Rattle.price_check.proofs.faults.tally.Goals as goal

pub count-at_device-requires-clause-few : goal.count-at_device-requires-clause-few
count-at_device-requires-clause-few c =
    let net = instance_of_rows c.args.net.now in
    let f = slice_index c.args.schedule.now in
    let few = c.rounds.ensures.sound.few_stays in
    let placed : IsPlaced net f c.args.stay = record {
      device = rw c.device-device.ensures.same at c.device-device.ensures.within;
      adapter = rw c.adapter.ensures.same at c.adapter.ensures.within;
      first = c.requires.first;
      last = c.requires.last;
    } in
    few_here net f c.args.counts.now c.args.stay (net.device c.args.stay) c.cell.result [] (counted_none net f c.args.counts.now c.args.stay c.requires.tally) (device_place net f c.args.stay placed) refl (omega arith)
    (c.cell.ensures ∙ rw (c.rounds.ensures.same, c.device-device.ensures.same, c.round-round.ensures) refl)

pub count-at_adapter-requires-clause-few : goal.count-at_adapter-requires-clause-few
count-at_adapter-requires-clause-few c =
    let net = instance_of_rows c.args.net.now in
    let f = slice_index c.args.schedule.now in
    let s = c.args.stay in
    let few = c.rounds.ensures.sound.few_stays in
    let placed : IsPlaced net f s = record {
      device = rw c.device-device.ensures.same at c.device-device.ensures.within;
      adapter = rw c.adapter.ensures.same at c.adapter.ensures.within;
      first = c.requires.first;
      last = c.requires.last;
    } in
    let at : c.cell.result ≡ cell net.rounds (net.device s) (f s) = c.cell.ensures ∙ rw (c.rounds.ensures.same, c.device-device.ensures.same, c.round-round.ensures) refl in
    let first : IsCounted net f c.count-at_device.new.counts s (net.device s ∷ []) =
    rw (c.count-at_device.ensures.counted, at) (counted_more net f c.args.counts.now s (net.device s) [] (counted_none net f c.args.counts.now s c.requires.tally) (device_place net f s placed) refl c.requires.cells) in
    few_here net f c.count-at_device.new.counts s (adapter_resource net (adapter net s)) c.cell-2.result (net.device s ∷ []) first (adapter_place net f s placed) (adapter_new net f s placed) (omega arith)
    (c.cell-2.ensures ∙ rw (c.rounds-2.ensures.same, c.adapter_resource-adapter.ensures.same, c.adapter.ensures.same, c.round-round.ensures) refl)

pub count-at_adapter-requires-clause-within : goal.count-at_adapter-requires-clause-within
count-at_adapter-requires-clause-within c =
    let net = instance_of_rows c.args.net.now in
    let s = c.args.stay in
    cell_room (rows net) net.rounds (adapter_resource net (adapter net s)) (slice_index c.args.schedule.now s) c.cell-2.result _ (omega (arith, c.count-at_device.auto.counts, c.requires.cells)) (rw (c.adapter_resource-adapter.ensures.same, c.adapter.ensures.same) at c.adapter_resource-adapter.ensures.within) c.requires.first c.requires.last
    (c.cell-2.ensures ∙ rw (c.rounds-2.ensures.same, c.adapter_resource-adapter.ensures.same, c.adapter.ensures.same, c.round-round.ensures) refl)

pub returns : goal.returns
returns c =
    let net = instance_of_rows c.args.net.now in
    let f = slice_index c.args.schedule.now in
    let placed : IsPlaced net f c.args.stay = record {
      device = rw c.device-device.ensures.same at c.device-device.ensures.within;
      adapter = rw c.adapter.ensures.same at c.adapter.ensures.within;
      first = c.requires.first;
      last = c.requires.last;
    } in
    let done = tallied net f c.args.counts.now c.count-at_device.new.counts c.count-at_adapter.new.counts c.args.stay c.cell.result c.cell-2.result c.count-at_device.result c.count-at_adapter.result c.requires.tally placed c.requires.cells
    (c.cell.ensures ∙ rw (c.rounds.ensures.same, c.device-device.ensures.same, c.round-round.ensures) refl) c.count-at_device.ensures.now c.count-at_device.ensures.counted
    (c.cell-2.ensures ∙ rw (c.rounds-2.ensures.same, c.adapter_resource-adapter.ensures.same, c.adapter.ensures.same, c.round-round.ensures) refl) c.count-at_adapter.ensures.now c.count-at_adapter.ensures.counted in
    record { at_device = done.at_device; at_adapter = done.at_adapter; counted = done.counted }
