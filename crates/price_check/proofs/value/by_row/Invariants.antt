use Rattle.std.proofs.Common.{◌≡◌, ◌≤◌, ◌*◌, ◌^◌}
use Rattle.price_check.specs.Words.{sum_to, instance_of_rows, pricing_of_rows}
use Rattle.price_check.proofs.value.by_row.Given as goal

abbrev pub invariant-loop-passed : goal.invariant-loop-passed
invariant-loop-passed l = record {
  so_far : l.total ≡ sum_to l.passed (λ r. (instance_of_rows l.net).cap l.row r * pricing_of_rows l.prices l.row r);
  short : l.total ≤ 2 ^ 66 * l.passed;
}
