use Rattle.std.proofs.Common.{◌≡◌, ◌<◌, ◌/◌, ◌%◌}
use Rattle.round_net.specs.Nets.{cells}
use Rattle.round_net.specs.Pace.{waiting}
use Rattle.round_net.specs.Rows.{instance_of_rows, live_of_rows}
use Rattle.round_net.proofs.pace.waiting.Given as goal

-- the rounds of devices so far; between two rounds of a device the count is of the first one
abbrev pub invariant-loop-at : goal.invariant-loop-at
invariant-loop-at l = record {
  so_far : l.counts.items ≡ cells l.rounds (waiting (instance_of_rows l.net) (live_of_rows l.net)) l.at;
  count : 0 < l.at % l.rounds → l.count ≡ waiting (instance_of_rows l.net) (live_of_rows l.net) (l.at / l.rounds) (l.at % l.rounds);
}
