use Rattle.std.proofs.Common.{◌≡◌, ℕ, List, ◌++◌, append_assoc}
use Rattle.audit_report.specs.Findings.{stay_text}
use Rattle.audit_report.proofs.finding.write_stay.Goals as goal

regroup : (text words name cause : List ℕ) → ((text ++ words) ++ name) ++ cause ≡ text ++ (words ++ (name ++ cause))
regroup text words name cause = simp append_assoc

pub returns : goal.returns
unfolding stay_text
returns c =
    rw (c.in_ok-write_cause.ensures, c.in_ok-push_name.ensures.text, c.in_ok-extend_from_slice.ensures.items)
    (regroup c.args.text.now.items _ _ _)
