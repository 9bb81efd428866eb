use Rattle.std.proofs.Common.{◌≡◌, ◌+◌, arith, ap, ◌∙◌, length, codes, length-append}
use Rattle.report_text.proofs.report.push_stay.Goals as goal

pub returns-clause-short : goal.returns-clause-short
returns-clause-short c =
    let start = c.in_ok-push_stay_start.ensures.short in
    let best = c.in_ok-push_number.ensures.short 10 (omega arith) (omega arith) in
    let weight = c.in_ok-push_number-2.ensures.short 4 (omega arith) (omega arith) in
    let feed : length c.extend_from_slice.new.self.items ≡ length c.push_number-2.new.text.items + 1 = ap length c.in_ok-extend_from_slice.ensures.items ∙ length-append c.push_number-2.new.text.items (codes "\n") in
    omega arith
