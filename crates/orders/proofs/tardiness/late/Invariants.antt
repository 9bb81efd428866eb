use Rattle.std.proofs.Common.{◌≡◌, ◌&&◌, ◌≤◌, nat_lt, nat_le, slice_index}
use Rattle.round_net.specs.Rows.{instance_of_rows}
use Rattle.round_net.specs.Sums.{count_below}
use Rattle.orders.proofs.tardiness.late.Given as goal

-- the stays so far
abbrev pub invariant-loop-stay : goal.invariant-loop-stay
invariant-loop-stay l = let net = instance_of_rows l.net in record {
  counted : l.count ≡ count_below l.stay (λ s. nat_lt (net.last s) (slice_index l.schedule s) && nat_le (slice_index l.schedule s) net.rounds);
  few : l.count ≤ l.stay;
}
