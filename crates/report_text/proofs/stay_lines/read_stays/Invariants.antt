use Rattle.std.proofs.Common.{◌≡◌, ◌≤◌, ℕ, [], length}
use Rattle.report_text.specs.Reading.{HasReadTo}
use Rattle.report_text.proofs.stay_lines.read_stays.Given as goal

-- the stays so far were read
abbrev pub invariant-loop-stay : goal.invariant-loop-stay
invariant-loop-stay l = record {
  read : (best excess : ℕ) → HasReadTo l.net l.text best excess [] [] l.at → HasReadTo l.net l.text best excess l.rounds.items [] l.next;
  size : length l.rounds.items ≡ l.stay;
  within : l.next ≤ length l.text;
}
