use Rattle.std.proofs.Common.{◌≡◌, ℕ, ◌<◌, ◌≤◌, ◌+◌, length, slice_index}
use Rattle.capture.specs.Loads.{waiting, arrivals_in}
use Rattle.capture.proofs.WaitLemmas.{come, gone}
use Rattle.capture.proofs.device_rounds.waiting_row.Given as goal

-- the rounds so far have how many wait at their ends, and the others how many arrive
abbrev pub invariant-loop-round : goal.invariant-loop-round
invariant-loop-round l = record {
  now : l.waiting + gone l.requests l.device l.round ≡ come l.requests l.device l.round;
  size : length l.row.items ≡ l.last + 1;
  behind : (k : ℕ) → k < l.round → slice_index l.row.items k ≡ waiting l.requests l.device k;
  ahead : (k : ℕ) → l.round ≤ k → k ≤ l.last → slice_index l.row.items k ≡ arrivals_in l.requests l.device k;
}
