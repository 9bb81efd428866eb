use Rattle.std.proofs.Common.{◌≡◌, ℕ, List, ◌++◌, append_assoc}
use Rattle.report_text.specs.Lines.{line}
use Rattle.report_text.proofs.text.push_line.Goals as goal

regroup : (text word space digits feed : List ℕ) → (((text ++ word) ++ space) ++ digits) ++ feed ≡ text ++ (((word ++ space) ++ digits) ++ feed)
regroup text word space digits feed = simp append_assoc

pub returns-clause-text : goal.returns-clause-text
unfolding line
returns-clause-text c =
    rw (c.in_ok-extend_from_slice-4.ensures.items, c.in_ok-extend_from_slice-3.ensures.items, c.in_ok-extend_from_slice-2.ensures.items, c.in_ok-extend_from_slice.ensures.items, c.as_bytes.ensures.value, c.format.ensures.text)
    (regroup c.args.text.now.items c.args.word.now _ _ _)
