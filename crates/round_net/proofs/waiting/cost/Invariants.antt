use Rattle.std.proofs.Common.{◌≡◌, ℕ, ◌<◌, ◌≤◌, ◌*◌, ◌-◌, ◌^◌, slice_index}
use Rattle.round_net.specs.Sums.{sum_below}
use Rattle.round_net.specs.Rows.{instance_of_rows}
use Rattle.round_net.proofs.waiting.cost.Given as goal

-- the stays so far, none of which lies before its arrival
abbrev pub invariant-loop-stay : goal.invariant-loop-stay
invariant-loop-stay l =
    let net = instance_of_rows l.net in
    let f = slice_index l.schedule in
    record {
      so_far : l.total ≡ sum_below l.stay (λ s. net.weight s * (f s - net.arrival s));
      not_early : (s : ℕ) → s < l.stay → net.arrival s ≤ f s;
      short : l.total ≤ 2 ^ 42 * l.stay;
    }
