use Rattle.std.proofs.Common.{◌≤◌, map, take}
use Rattle.std.specs.List.{AllByRecursion}
use Rattle.cam_types.specs.declared.device.Device.{Device}
use Rattle.record_text.specs.ConfigRows.{device_row}
use Rattle.record_text.specs.Writing.{Wrote}
use Rattle.record_text.proofs.config_writer.write_devices.Given as goal

abbrev pub invariant-loop-device : goal.invariant-loop-device
invariant-loop-device l = Wrote l.fn.writer l.writer (map device_row (take l.device-index l.devices))
    × AllByRecursion (λ (d : Device). d.target ≤ 65535) (take l.device-index l.devices)
