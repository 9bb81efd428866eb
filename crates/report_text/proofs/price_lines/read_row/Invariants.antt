use Rattle.std.proofs.Common.{◌≡◌, ◌+◌, ◌*◌, ◌≤◌, ℕ, List, [], length, drop, get_or}
use Rattle.report_text.specs.Words.{instance_of_rows}
use Rattle.report_text.specs.TextLines.{lines}
use Rattle.report_text.specs.Reading.{HasReadTo}
use Rattle.report_text.proofs.price_lines.read_row.Given as goal

-- the prices of the resource so far were read
abbrev pub invariant-loop-passed : goal.invariant-loop-passed
invariant-loop-passed l = record {
  read : (best excess : ℕ) (rounds : List ℕ) → length rounds ≡ (instance_of_rows l.net).stays → length l.initial.prices.items ≡ l.row * (instance_of_rows l.net).rounds → HasReadTo l.net l.text best excess rounds l.initial.prices.items l.at
      → (length l.prices.items ≡ l.row * (instance_of_rows l.net).rounds + l.passed) × HasReadTo l.net l.text best excess rounds l.prices.items l.next;
  line : l.line ≡ get_or (lines (drop l.next l.text)) 0 [];
  within : l.next ≤ length l.text;
}
