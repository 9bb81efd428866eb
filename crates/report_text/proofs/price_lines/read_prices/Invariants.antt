use Rattle.std.proofs.Common.{◌≡◌, ◌*◌, ◌≤◌, ℕ, List, [], length}
use Rattle.report_text.specs.Words.{instance_of_rows}
use Rattle.report_text.specs.Reading.{HasReadTo}
use Rattle.report_text.proofs.price_lines.read_prices.Given as goal

-- the prices of the resources so far were read
abbrev pub invariant-loop-row : goal.invariant-loop-row
invariant-loop-row l = record {
  read : (best excess : ℕ) (rounds : List ℕ) → length rounds ≡ (instance_of_rows l.net).stays → HasReadTo l.net l.text best excess rounds [] l.at
      → (length l.prices.items ≡ l.row * (instance_of_rows l.net).rounds) × HasReadTo l.net l.text best excess rounds l.prices.items l.next;
  within : l.next ≤ length l.text;
}
