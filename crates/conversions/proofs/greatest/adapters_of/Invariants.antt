use Rattle.std.proofs.Common.{◌≡◌, map, take}
use Rattle.cam_types.specs.Lists.{prefixed}
use Rattle.conversions.specs.RecordingScript.{adapter_at}
use Rattle.conversions.proofs.greatest.adapters_of.Given as goal

-- the adapters so far
abbrev pub invariant-loop-number : goal.invariant-loop-number
invariant-loop-number l = l.adapters.items ≡ map (adapter_at l.recording) (prefixed (take l.number l.recording.config.adapters))
