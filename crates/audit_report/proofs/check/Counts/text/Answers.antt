use Rattle.std.proofs.Common.{rules}
use Rattle.audit_report.specs.Check.{check_text}
use Rattle.audit_report.proofs.check.Counts.text.Goals as goal

pub returns : goal.returns
unfolding check_text
returns c =
    rw (c.in_ok-push_line-5.ensures.text, c.in_ok-push_line-4.ensures.text, c.in_ok-push_line-3.ensures.text, c.in_ok-push_line-2.ensures.text, c.in_ok-push_line.ensures.text, c.new-text.ensures.items)
    (search rules)
