use Rattle.std.proofs.Common.{arith, ap, length, length-append, vec_capacity, ◌∙◌, ◌∷◌, [], ne_eqb}
use Rattle.xpt_core.proofs.OpenLemmas.{one_more, none_more}
use Rattle.xpt_core.proofs.queues.open.devices_on.Goals as goal
use Rattle.xpt_core.proofs.queues.open.devices_on.Goals.{then-from-adapter, else-from-adapter}

pub loop-device-preserved : goal.loop-device-preserved
loop-device-preserved c = elim c.if-from-adapter.branch [
  | then-from-adapter w ↦ record {
    so_far = ap (λ v. v.items) w.numbers-is ∙ w.push_reserved.ensures.items
        ∙ one_more c.args.config.now c.args.adapter c.loop-device.device c.devices-devices.result.now _ c.devices-devices.ensures.same (omega (arith, c.loop-device-test.true))
        c.loop-device.numbers.items c.loop-device.invariant.so_far c.from.result c.from.ensures w.if-from-adapter.true;
    room = omega (arith, ap vec_capacity w.numbers-is, w.push_reserved.ensures.capacity, c.loop-device.invariant.room);
    few = omega (arith, ap (λ v. length v.items) w.numbers-is, ap length w.push_reserved.ensures.items, length-append c.loop-device.numbers.items (c.loop-device.device ∷ []), c.loop-device.invariant.few);
  }
  | else-from-adapter w ↦ record {
    so_far = ap (λ v. v.items) w.numbers-is
        ∙ none_more c.args.config.now c.args.adapter c.loop-device.device c.devices-devices.result.now _ c.devices-devices.ensures.same (omega (arith, c.loop-device-test.true))
        c.loop-device.numbers.items c.loop-device.invariant.so_far c.from.result c.from.ensures (ne_eqb c.from.result c.args.adapter w.if-from-adapter.false);
    room = omega (arith, ap vec_capacity w.numbers-is, c.loop-device.invariant.room);
    few = omega (arith, ap (λ v. length v.items) w.numbers-is, c.loop-device.invariant.few);
  }
]
