use Rattle.std.proofs.Common.{◌≡◌, ℕ, List, ◌++◌, append_assoc}
use Rattle.audit_report.specs.Findings.{gap_text}
use Rattle.audit_report.proofs.finding.write_gap.Goals as goal

regroup : (text words digits feed : List ℕ) → ((text ++ words) ++ digits) ++ feed ≡ text ++ (words ++ (digits ++ feed))
regroup text words digits feed = simp append_assoc

pub returns : goal.returns
unfolding gap_text
returns c =
    rw (c.in_ok-extend_from_slice-3.ensures.items, c.in_ok-extend_from_slice-2.ensures.items, c.in_ok-extend_from_slice.ensures.items, c.as_bytes.ensures.value, c.format.ensures.text)
    (regroup c.args.text.now.items _ _ _)
