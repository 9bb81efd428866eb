use Rattle.std.proofs.Common.{◌≡◌, min, take}
use Rattle.cam_types.specs.declared.limits.TheConstants.{MAX_OPENINGS}
use Rattle.capture.proofs.CapRowLemmas.{openings_at}
use Rattle.capture.proofs.shared_adapters.shared_openings.Given as goal

-- the openings of the devices so far, up to as many as there may be
abbrev pub invariant-loop-device : goal.invariant-loop-device
invariant-loop-device l = l.sum ≡ min MAX_OPENINGS (openings_at (take l.device-index l.devices) l.adapter)
