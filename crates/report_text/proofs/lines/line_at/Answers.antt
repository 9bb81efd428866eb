use Rattle.std.proofs.Common.{◌≡◌, drop, sym, ap, ◌∙◌}
use Rattle.std.proofs.lemmas.List.{take_rest}
use Rattle.report_text.proofs.TextLemmas.{line_len, first_line}
use Rattle.report_text.proofs.lines.line_at.Goals as goal

pub returns : goal.returns
returns c =
    let rest = drop c.args.at c.args.text.now in
    let size : c.line_len.result ≡ line_len rest = c.line_len.ensures.count ∙ ap line_len (take_rest c.args.text.now c.args.at) in
    rw (take_rest c.args.text.now c.args.at, size) (sym (first_line rest))
