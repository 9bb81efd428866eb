use Rattle.std.proofs.Common.{◌≡◌, ◌++◌, ◌+◌, ◌*◌, ◌≤◌, length, slice_index}
use Rattle.report_text.specs.Report.{texts_below, stay_line}
use Rattle.report_text.proofs.report.push_stays.Given as goal

abbrev pub invariant-loop-stay : goal.invariant-loop-stay
invariant-loop-stay l =
    (l.text.items ≡ l.initial.text.items ++ texts_below l.stay (stay_line l.net (slice_index l.schedule)))
    × (length l.text.items ≤ length l.initial.text.items + 64 * l.stay)
