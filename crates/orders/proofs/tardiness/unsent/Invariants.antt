use Rattle.std.proofs.Common.{◌≡◌, ◌≤◌, nat_lt, slice_index}
use Rattle.round_net.specs.Rows.{instance_of_rows}
use Rattle.round_net.specs.Sums.{count_below}
use Rattle.orders.proofs.tardiness.unsent.Given as goal

-- the stays so far
abbrev pub invariant-loop-stay : goal.invariant-loop-stay
invariant-loop-stay l = record {
  counted : l.count ≡ count_below l.stay (λ s. nat_lt (instance_of_rows l.net).rounds (slice_index l.schedule s));
  few : l.count ≤ l.stay;
}
