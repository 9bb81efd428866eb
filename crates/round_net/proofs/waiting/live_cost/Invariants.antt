use Rattle.std.proofs.Common.{◌≡◌, ◌≤◌, ◌*◌, ◌-◌, ◌^◌}
use Rattle.round_net.specs.Sums.{sum_below}
use Rattle.round_net.specs.Rows.{instance_of_rows, live_of_rows}
use Rattle.round_net.proofs.waiting.live_cost.Given as goal

-- the stays so far
abbrev pub invariant-loop-stay : goal.invariant-loop-stay
invariant-loop-stay l =
    let net = instance_of_rows l.net in
    (l.total ≡ sum_below l.stay (λ s. net.weight s * (live_of_rows l.net s - net.arrival s))) × (l.total ≤ 2 ^ 42 * l.stay)
