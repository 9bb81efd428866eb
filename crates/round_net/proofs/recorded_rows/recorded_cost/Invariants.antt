use Rattle.std.proofs.Common.{◌≡◌, ◌≤◌, ◌*◌, ◌^◌}
use Rattle.cam_types.specs.declared.limits.TheConstants.{MAX_WEIGHT}
use Rattle.round_net.specs.Sums.{sum_below}
use Rattle.round_net.proofs.RecordedLemmas.{waited_by}
use Rattle.round_net.proofs.recorded_rows.recorded_cost.Given as goal

-- the requests so far
abbrev pub invariant-loop-number : goal.invariant-loop-number
invariant-loop-number l = (l.total ≡ sum_below l.number (waited_by l.recording)) × (l.total ≤ MAX_WEIGHT * 2 ^ 32 * l.number)
