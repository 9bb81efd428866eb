use Rattle.std.proofs.Common.{◌≡◌, map, take}
use Rattle.cam_types.specs.Lists.{prefixed}
use Rattle.conversions.specs.RecordingScript.{device_at}
use Rattle.conversions.proofs.greatest.devices_of.Given as goal

-- the devices so far
abbrev pub invariant-loop-number : goal.invariant-loop-number
invariant-loop-number l = l.devices.items ≡ map (device_at l.recording) (prefixed (take l.number l.recording.config.devices))
