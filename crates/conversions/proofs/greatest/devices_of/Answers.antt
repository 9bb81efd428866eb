use Rattle.std.proofs.Common.{◌≡◌, ap, ◌∙◌, arith, length}
use Rattle.cam_types.specs.Topology.{Topology}
use Rattle.conversions.proofs.GreatestLemmas.{devices_more}
use Rattle.conversions.proofs.greatest.devices_of.Goals as goal

pub loop-number-preserved : goal.loop-number-preserved
loop-number-preserved c =
    let r = c.args.recording.now in
    let same : c.devices-device-items.result.now ≡ r.config.devices = c.devices-device-items.ensures.same ∙ ap (λ (t : Topology). t.devices) c.config.ensures.same in
    let pushed = rw same at c.in_ok-push.ensures.items in
    devices_more r r.config.devices c.loop-number.number c.greatest.result (record { bus = 0; target = 0; lun = 0; openings = 0 }) c.loop-number.devices.items c.push.new.self.items (omega (arith, c.loop-number-test.true, ap length same)) c.loop-number.invariant c.greatest.ensures pushed
