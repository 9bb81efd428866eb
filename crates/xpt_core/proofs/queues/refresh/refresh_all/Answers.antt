use Rattle.std.proofs.Common.{arith, ap, length, ◌∙◌}
use Rattle.cam_types.specs.Topology.{Topology}
use Rattle.xpt_core.proofs.ReadyLemmas.{so_far-step, so_far-end}
use Rattle.xpt_core.proofs.queues.refresh.refresh_all.Goals as goal

pub loop-device-preserved : goal.loop-device-preserved
loop-device-preserved c =
    let same = c.devices-device-end.ensures.same ∙ ap (λ (t : Topology). t.devices) c.config.ensures in
    so_far-step c.args.devices.now.config c.args.devices.now.events c.args.sims.now.items c.loop-device.sims.items c.refresh_one.new.sims.items c.loop-device.device
    (omega (arith, c.loop-device-test.true, ap length same)) c.loop-device.invariant c.refresh_one.ensures

pub returns : goal.returns
returns c =
    let same = c.devices-device-end.ensures.same ∙ ap (λ (t : Topology). t.devices) c.config.ensures in
    so_far-end c.args.devices.now.config c.args.devices.now.events c.args.sims.now.items c.loop-device.sims.items c.loop-device.device
    (omega (arith, c.loop-device-test.false, ap length same)) c.requires c.loop-device.invariant
