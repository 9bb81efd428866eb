use Rattle.std.proofs.Common.{◌≡◌, ◌*◌, ◌≤◌, length, take, sum_by}
use Rattle.conversions.proofs.arrivals_script.steps_in.Given as goal

-- how many there are so far
abbrev pub invariant-loop-steps : goal.invariant-loop-steps
invariant-loop-steps l = record {
  count : l.count ≡ sum_by (λ x. length x.items) (take l.steps-index l.drivers);
  few : l.count ≤ 131070 * l.steps-index;
}
