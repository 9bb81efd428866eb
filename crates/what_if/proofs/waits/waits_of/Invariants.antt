use Rattle.std.proofs.Common.{◌≡◌}
use Rattle.std.specs.List.{list_any, range_with_len}
use Rattle.round_net.specs.Rows.{instance_of_rows, live_of_rows}
use Rattle.what_if.specs.Tries.{waiting_at, is_full, is_stopped}
use Rattle.what_if.proofs.waits.waits_of.Given as goal

-- the rounds so far
abbrev pub invariant-loop-before : goal.invariant-loop-before
invariant-loop-before l = record {
  waiting : l.waiting ≡ waiting_at (instance_of_rows l.net) (live_of_rows l.net) l.row l.before;
  full : l.waits.full ≡ list_any (is_full (instance_of_rows l.net) (live_of_rows l.net) l.row) (range_with_len 1 l.before);
  stopped : l.waits.stopped ≡ list_any (is_stopped (instance_of_rows l.net) (live_of_rows l.net) l.row) (range_with_len 1 l.before);
}
