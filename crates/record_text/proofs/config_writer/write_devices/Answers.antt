use Rattle.std.proofs.Common.{◌≤◌, arith}
use Rattle.std.proofs.lemmas.List.{get_or_default}
use Rattle.cam_types.specs.declared.device.Device.{Device}
use Rattle.record_text.specs.ConfigRows.{device_row}
use Rattle.record_text.proofs.WritingLemmas.{all_more, wrote_more, wrote_none}
use Rattle.record_text.proofs.config_writer.write_devices.Goals as goal

pub loop-device-init : goal.loop-device-init
loop-device-init c = (wrote_none c.args.writer.now c.requires, tt)

pub loop-device-preserved : goal.loop-device-preserved
loop-device-preserved c =
    let items = c.args.devices.now in
    let i = c.loop-device.device-index in (
      wrote_more c.args.writer.now c.loop-device.writer c.write_device.new.writer device_row items i _ (omega arith) (get_or_default items i _ _ (omega arith)) c.loop-device.invariant.0 c.in_ok-write_device.ensures.rows,
      all_more (λ (d : Device). d.target ≤ 65535) items i _ (omega arith) (get_or_default items i _ _ (omega arith)) c.loop-device.invariant.1 c.write_device.ensures.fits,
    )
