use Rattle.std.proofs.Common.{◌≡◌, ℕ, List, ◌++◌, length, take, drop, true, false, refl, sym, ap, ◌∙◌, take-append-drop}
use Rattle.std.proofs.lemmas.List.{take_rest, take_at}
use Rattle.std.proofs.lemmas.Slice.Eq.{bytes_eq-Decides}
use Rattle.report_text.proofs.pieces.after.Goals as goal

pub returns-then-starts_with-clause-spelled : goal.returns-then-starts_with-clause-spelled
returns-then-starts_with-clause-spelled c =
    let text = c.args.text.now in
    let piece = c.args.piece.now in
    let same : piece ≡ take (length piece) text = (bytes_eq-Decides piece (take (length piece) text)).0 (sym c.starts_with.ensures.value ∙ c.if-starts_with.true) in
    rw (take_rest text (length piece)) (sym (take-append-drop (length piece) text) ∙ ap (λ (l : List ℕ). l ++ drop (length piece) text) (sym same))

pub returns-else-starts_with-clause-read : goal.returns-else-starts_with-clause-read
returns-else-starts_with-clause-read c = λ rest e.
    let text = c.args.text.now in
    let piece = c.args.piece.now in
    let front : take (length piece) text ≡ piece = ap (take (length piece)) e ∙ take_at piece rest (length piece) refl in
    let both : true ≡ false = sym ((bytes_eq-Decides piece (take (length piece) text)).1 (sym front)) ∙ sym c.starts_with.ensures.value ∙ c.if-starts_with.false in
    absurd cc
