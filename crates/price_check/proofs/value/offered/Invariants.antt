use Rattle.std.proofs.Common.{◌≡◌, ◌≤◌, ◌*◌, ◌^◌}
use Rattle.price_check.specs.Words.{sum_below, sum_to, instance_of_rows, pricing_of_rows}
use Rattle.price_check.proofs.value.offered.Given as goal

abbrev pub invariant-loop-row : goal.invariant-loop-row
invariant-loop-row l =
    let net = instance_of_rows l.net in
    record {
      so_far : l.total ≡ sum_below l.row (λ row. sum_to net.rounds (λ r. net.cap row r * pricing_of_rows l.prices row r));
      short : l.total ≤ 2 ^ 82 * l.row;
    }
