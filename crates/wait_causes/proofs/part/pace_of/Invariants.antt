use Rattle.std.proofs.Common.{◌≡◌, ◌*◌, ◌≤◌, take, sum_by}
use Rattle.wait_causes.specs.Parts.{measure, Pace}
use Rattle.wait_causes.proofs.part.pace_of.Given as goal

-- the stays so far
abbrev pub invariant-loop-stay : goal.invariant-loop-stay
invariant-loop-stay l = record {
  so_far : l.sum ≡ sum_by (measure Pace) (take l.stay-index l.stays);
  few : l.sum ≤ 4398046511104 * l.stay-index;
}
