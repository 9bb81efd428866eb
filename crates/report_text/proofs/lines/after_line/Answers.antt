use Rattle.std.proofs.Common.{◌≡◌, ◌+◌, drop, sym, ap, ◌∙◌, arith, drop-drop}
use Rattle.std.proofs.lemmas.List.{take_rest, drop_all}
use Rattle.report_text.specs.TextLines.{lines}
use Rattle.report_text.proofs.TextLemmas.{line_len, other_lines}
use Rattle.report_text.proofs.lines.after_line.Goals as goal

pub returns-then-end-text-clause-lines : goal.returns-then-end-text-clause-lines
returns-then-end-text-clause-lines c =
    let text = c.args.text.now in
    let rest = drop c.args.at text in
    let size : c.line_len.result ≡ line_len rest = c.line_len.ensures.count ∙ ap line_len (take_rest text c.args.at) in
    let place : c.args.at + c.line_len.result + 1 ≡ c.args.at + (line_len rest + 1) = omega arith in
    rw place (ap lines (sym (drop-drop (line_len rest + 1) c.args.at text)) ∙ other_lines rest)

pub returns-else-end-text-clause-lines : goal.returns-else-end-text-clause-lines
returns-else-end-text-clause-lines c =
    let text = c.args.text.now in
    let rest = drop c.args.at text in
    let size : c.line_len.result ≡ line_len rest = c.line_len.ensures.count ∙ ap line_len (take_rest text c.args.at) in
    let end = c.if-end-text.false in
    ap lines (drop_all (c.args.at + c.line_len.result) text end ∙ sym (drop_all (c.args.at + (line_len rest + 1)) text (omega arith)) ∙ sym (drop-drop (line_len rest + 1) c.args.at text)) ∙ other_lines rest
