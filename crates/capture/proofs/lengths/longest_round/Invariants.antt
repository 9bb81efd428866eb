use Rattle.std.proofs.Common.{◌≡◌, ◌≤◌, ◌*◌, ◌^◌, take, filter, length}
use Rattle.std.specs.List.{sum_by}
use Rattle.capture.specs.Timed.{is_started}
use Rattle.capture.specs.Lengths.{wait_of}
use Rattle.capture.proofs.lengths.longest_round.Given as goal

-- the waits so far and their number
abbrev pub invariant-loop-request : goal.invariant-loop-request
invariant-loop-request l = record {
  waits : l.waits ≡ sum_by wait_of (filter is_started (take l.request-index l.requests));
  count : l.count ≡ length (filter is_started (take l.request-index l.requests));
  few : l.count ≤ l.request-index;
  small : l.waits ≤ l.count * 2 ^ 64;
}
