use Rattle.std.proofs.Common.{◌≡◌, ◌+◌, arith, ap, ◌∙◌, length, codes, length-append}
use Rattle.report_text.proofs.report.push_price.Goals as goal

pub returns-clause-short : goal.returns-clause-short
returns-clause-short c =
    let row = c.in_ok-push_row.ensures.short in
    let round = c.in_ok-push_number.ensures.short 10 (omega arith) (omega arith) in
    let price = c.in_ok-push_number-2.ensures.short 20 (omega arith) (omega arith) in
    let feed : length c.extend_from_slice.new.self.items ≡ length c.push_number-2.new.text.items + 1 = ap length c.in_ok-extend_from_slice.ensures.items ∙ length-append c.push_number-2.new.text.items (codes "\n") in
    omega arith
