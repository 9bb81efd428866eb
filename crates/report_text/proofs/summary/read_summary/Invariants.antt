use Rattle.std.proofs.Common.{◌≤◌, length, drop, replicate}
use Rattle.report_text.specs.TextLines.{lines}
use Rattle.report_text.specs.Reading.{HasRead}
use Rattle.report_text.proofs.summary.read_summary.Given as goal

-- the lines so far were read
abbrev pub invariant-loop-line : goal.invariant-loop-line
invariant-loop-line l = record {
  read : HasRead l.net l.text (replicate l.line 0) (lines (drop l.next l.text));
  within : l.next ≤ length l.text;
}
