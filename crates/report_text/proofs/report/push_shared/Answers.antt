use Rattle.std.proofs.Common.{arith, ap, length, codes, length-append}
use Rattle.std.proofs.lemmas.Result.{on_ok_weaker}
use Rattle.report_text.proofs.report.push_shared.Goals as goal

pub returns-in_ok-extend_from_slice-clause-short : goal.returns-in_ok-extend_from_slice-clause-short
returns-in_ok-extend_from_slice-clause-short c =
    let word = ap length c.in_ok-extend_from_slice.ensures.items in
    let size = length-append c.args.text.now.items (codes "price sim") in
    on_ok_weaker c.push_number.result (λ digits. let number = digits 10 (omega arith) (omega arith) in omega arith) c.push_number.ensures.short

pub returns-in_ok-extend_from_slice-2-clause-short : goal.returns-in_ok-extend_from_slice-2-clause-short
returns-in_ok-extend_from_slice-2-clause-short c =
    let word = ap length c.in_ok-extend_from_slice-2.ensures.items in
    let size = length-append c.args.text.now.items (codes "price link") in
    on_ok_weaker c.push_number-else-number-adapters.result (λ digits. let number = digits 10 (omega arith) (omega arith) in omega arith) c.push_number-else-number-adapters.ensures.short
