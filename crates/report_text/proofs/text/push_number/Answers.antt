use Rattle.std.proofs.Common.{◌≡◌, ◌++◌, arith, append_assoc, codes, decimal}
use Rattle.report_text.specs.Report.{number_text}
use Rattle.report_text.proofs.ReportLemmas.{number_behind}
use Rattle.report_text.proofs.text.push_number.Goals as goal

pub returns-clause-short : goal.returns-clause-short
returns-clause-short c = λ digits some few.
    let text : c.extend_from_slice-2.new.self.items ≡ c.args.text.now.items ++ number_text c.args.number =
    rw (c.in_ok-extend_from_slice-2.ensures.items, c.in_ok-extend_from_slice.ensures.items, c.as_bytes.ensures.value, c.format.ensures.text) (append_assoc c.args.text.now.items (codes " ") (decimal c.args.number)) in
    number_behind digits c.args.number c.args.text.now.items _ some few (omega arith) text
