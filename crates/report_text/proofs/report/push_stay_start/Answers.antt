use Rattle.std.proofs.Common.{◌≡◌, ◌+◌, arith, ap, ◌∙◌, length, codes, length-append}
use Rattle.report_text.specs.Words.{instance_of_rows, live_of_rows}
use Rattle.report_text.proofs.ReportLemmas.{early_rounds}
use Rattle.report_text.proofs.report.push_stay_start.Goals as goal

pub returns-clause-short : goal.returns-clause-short
returns-clause-short c =
    let few = early_rounds (instance_of_rows c.args.net.now) (live_of_rows c.args.net.now) c.args.stay c.requires.sound c.requires.stay in
    let name = c.in_ok-push_name.ensures.short in
    let arrival = c.in_ok-push_number.ensures.short 5 (omega arith) (omega (arith, few)) in
    let live = c.in_ok-push_number-2.ensures.short 5 (omega arith) (omega (arith, few)) in
    let word : length c.extend_from_slice.new.self.items ≡ length c.args.text.now.items + 4 = ap length c.in_ok-extend_from_slice.ensures.items ∙ length-append c.args.text.now.items (codes "stay") in
    omega arith
