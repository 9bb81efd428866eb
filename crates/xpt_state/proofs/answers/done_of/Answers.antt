use Rattle.std.proofs.Common.{◌≡◌, Option, Some, None, ap, sym, ◌∙◌, option_copied}
use Rattle.xpt_state.specs.Words.{Ccb}
use Rattle.xpt_state.specs.Rows.{done_by}
use Rattle.xpt_state.proofs.XptLemmas.{done_row}
use Rattle.xpt_state.proofs.answers.done_of.Goals as goal

pub unreachable-requires : goal.unreachable-requires
unreachable-requires c =
    let by = done_row c.args.state.now c.args.ccb c.args.outcome.now c.events-events.ensures.legal c.requires in
    let none : ◌≡◌ {A = Option Ccb} None (Some by.0) =
    ap option_copied (sym c.in-None.is) ∙ c.ccb.ensures ∙ by.1 in
    absurd (cc)

pub returns : goal.returns
returns c =
    let by = done_row c.args.state.now c.args.ccb c.args.outcome.now c.events-events.ensures.legal c.requires in
    let some : ◌≡◌ {A = Option Ccb} (Some c.in-Some.row.now) (Some by.0) =
    ap option_copied (sym c.in-Some.is) ∙ c.ccb.ensures ∙ by.1 in
    let row : c.in-Some.row.now ≡ by.0 = cc in
    c.of.ensures ∙ ap (λ (r : Ccb). done_by r c.args.outcome.now) row ∙ sym by.2
