use Rattle.std.proofs.Common.{arith}
use Rattle.report_text.proofs.text.push_name.Goals as goal

pub returns-clause-short : goal.returns-clause-short
returns-clause-short c =
    let ccb = c.in_ok-push_number.ensures.short 10 (omega arith) (omega arith) in
    let attempt = c.in_ok-push_number-2.ensures.short 10 (omega arith) (omega arith) in
    omega arith
