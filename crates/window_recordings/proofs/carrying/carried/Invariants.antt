use Rattle.std.proofs.Common.{◌≡◌, ◌*◌, ◌^◌, ◌≤◌, take}
use Rattle.cam_types.specs.declared.limits.TheConstants.{MAX_WEIGHT}
use Rattle.window_recordings.proofs.CarriedLemmas.{carried_by_requests}
use Rattle.window_recordings.proofs.carrying.carried.Given as goal

-- the requests so far
abbrev pub invariant-loop-request : goal.invariant-loop-request
invariant-loop-request l = record {
  total : l.total ≡ carried_by_requests l.round l.recording.config (take l.request-index l.recording.requests);
  small : l.total ≤ MAX_WEIGHT * 2 ^ 32 * l.request-index;
}
