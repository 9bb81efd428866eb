use Rattle.std.proofs.Common.{◌+◌, ◌-◌, ◌≤◌}
use Rattle.round_net.specs.Rows.{instance_of_rows}
use Rattle.orders.specs.Room.{HasNoRoom, AreSkips}
use Rattle.orders.proofs.first_round.first_round.Given as goal

-- so far there was no room
abbrev pub invariant-loop-round : goal.invariant-loop-round
invariant-loop-round l = let net = instance_of_rows l.net in record {
  skips : AreSkips net l.loads l.skips;
  later : net.arrival l.fn.stay ≤ l.round;
  ends : l.round ≤ net.rounds + 1;
  passed : HasNoRoom net l.loads (net.device l.fn.stay) (net.arrival l.fn.stay) l.round;
}

abbrev pub decreases-loop-round : goal.decreases-loop-round
decreases-loop-round l = (instance_of_rows l.net).rounds + 1 - l.round
