use Rattle.std.proofs.Common.{◌≡◌, ◌+◌, ◌≤◌, drop, length}
use Rattle.report_text.specs.TextLines.{lines}
use Rattle.report_text.proofs.lines.count_lines.Given as goal

-- the lines before the next one are counted
abbrev pub invariant-loop-at : goal.invariant-loop-at
invariant-loop-at l = record {
  counted : l.count + length (lines (drop l.next l.text)) ≡ length (lines l.text);
  few : l.count ≤ l.at;
  passed : l.at ≤ l.next;
  within : l.next ≤ length l.text;
}
