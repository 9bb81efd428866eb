use Rattle.std.proofs.Common.{◌≡◌, ◌≤◌, All, map}
use Rattle.std.specs.List.{range_with_len}
use Rattle.cam_types.specs.declared.limits.TheConstants.{MAX_OPENINGS}
use Rattle.capture.specs.Usual.{usual_taken}
use Rattle.capture.proofs.capture.Capture.usual_taken.Given as goal

-- the numbers of the devices so far
abbrev pub invariant-loop-device : goal.invariant-loop-device
invariant-loop-device l = record {
  same : l.numbers.items ≡ map (usual_taken l.self) (range_with_len 0 l.device);
  within : All (λ n. (1 ≤ n) × (n ≤ MAX_OPENINGS)) l.numbers.items;
}
