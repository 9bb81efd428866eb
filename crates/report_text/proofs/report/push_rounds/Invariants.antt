use Rattle.std.proofs.Common.{length, ◌≡◌, ◌+◌, ◌++◌, ◌*◌, ◌≤◌}
use Rattle.report_text.specs.Words.{instance_of_rows, pricing_of_rows}
use Rattle.report_text.specs.Report.{texts_below, row_line}
use Rattle.report_text.proofs.report.push_rounds.Given as goal

abbrev pub invariant-loop-round : goal.invariant-loop-round
invariant-loop-round l =
    (l.text.items ≡ l.initial.text.items ++ texts_below l.round (λ r. row_line l.devices (instance_of_rows l.net).adapters (pricing_of_rows l.prices) l.row (r + 1)))
    × (length l.text.items ≤ length l.initial.text.items + 64 * l.round)
