use Rattle.std.proofs.Common.{◌≡◌, ◌++◌, rules, refl, sym, ◌∙◌, codes}
use Rattle.report_text.specs.Words.{instance_of_rows}
use Rattle.report_text.specs.Report.{number_text, stay_start}
use Rattle.report_text.specs.Reading.{stay_text}
use Rattle.report_text.proofs.stay_lines.read_stay.Goals as goal

pub returns-in-Some-clause-ok : goal.returns-in-Some-clause-ok
unfolding stay_text
returns-in-Some-clause-ok c =
    let front : c.deref.result.now ≡ stay_start c.args.net.now c.args.stay ++ codes " " = search rules in
    let back : c.deref-2.result.now ≡ number_text ((instance_of_rows c.args.net.now).weight c.args.stay) = search rules in
    let spelled = c.in-Some.ensures.spelled in
    (rw c.max_number-most.ensures.same at spelled.0, sym c.line_at-line.ensures ∙ spelled.1 ∙ rw (front, back) refl)

pub returns-in-None-clause-err : goal.returns-in-None-clause-err
unfolding stay_text
returns-in-None-clause-err c =
    let front : c.deref.result.now ≡ stay_start c.args.net.now c.args.stay ++ codes " " = search rules in
    let back : c.deref-2.result.now ≡ number_text ((instance_of_rows c.args.net.now).weight c.args.stay) = search rules in
    λ other. (
      λ round small same. absurd (
          let found = c.in-None.ensures.read round (rw c.max_number-most.ensures.same small) (rw (front, back) (c.line_at-line.ensures ∙ same)) in
          let none = c.in-None.is in
          cc
          ),
      rw c.stay_fault.ensures c.line_number.ensures,
    )
