use Rattle.std.proofs.Common.{◌≡◌, ◌-◌, ℕ, List, ◌++◌, length, take, drop, true, false, sym, ap, ◌∙◌, arith, length-append, take-append-drop}
use Rattle.std.proofs.lemmas.List.{drop_at}
use Rattle.std.proofs.lemmas.Slice.Eq.{bytes_eq-Decides}
use Rattle.report_text.proofs.pieces.before.Goals as goal

pub returns-then-ends_with-clause-spelled : goal.returns-then-ends_with-clause-spelled
returns-then-ends_with-clause-spelled c =
    let text = c.args.text.now in
    let piece = c.args.piece.now in
    let k = length text - length piece in
    let same : piece ≡ drop k text = (bytes_eq-Decides piece (drop k text)).0 (sym c.ends_with.ensures.value ∙ c.if-ends_with.true) in
    sym (take-append-drop k text) ∙ ap (λ (l : List ℕ). take k text ++ l) (sym same)

pub returns-else-ends_with-clause-read : goal.returns-else-ends_with-clause-read
returns-else-ends_with-clause-read c = λ rest e.
    let text = c.args.text.now in
    let piece = c.args.piece.now in
    let k = length text - length piece in
    let size = ap (length {A = ℕ}) e ∙ length-append rest piece in
    let back : drop k text ≡ piece = ap (drop k) e ∙ drop_at rest piece k (omega arith) in
    let both : true ≡ false = sym ((bytes_eq-Decides piece (drop k text)).1 (sym back)) ∙ sym c.ends_with.ensures.value ∙ c.if-ends_with.false in
    absurd cc
