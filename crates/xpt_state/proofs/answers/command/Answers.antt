use Rattle.std.proofs.Common.{◌≡◌, Option, Some, None, ap, sym, ◌∙◌, option_copied}
use Rattle.xpt_state.specs.Words.{Ccb}
use Rattle.xpt_state.specs.Rows.{command_by}
use Rattle.xpt_state.proofs.XptLemmas.{send_row}
use Rattle.xpt_state.proofs.answers.command.Goals as goal

pub unreachable-requires : goal.unreachable-requires
unreachable-requires c =
    let by = send_row c.args.state.now c.args.lane c.args.ccb c.events-events.ensures.legal c.requires in
    let none : ◌≡◌ {A = Option Ccb} None (Some by.0) =
    ap option_copied (sym c.in-None.is) ∙ c.ccb.ensures ∙ by.1 in
    absurd (cc)

pub returns-clause-command : goal.returns-clause-command
returns-clause-command c =
    let by = send_row c.args.state.now c.args.lane c.args.ccb c.events-events.ensures.legal c.requires in
    let some : ◌≡◌ {A = Option Ccb} (Some c.in-Some.row.now) (Some by.0) =
    ap option_copied (sym c.in-Some.is) ∙ c.ccb.ensures ∙ by.1 in
    let row : by.0 ≡ c.in-Some.row.now = cc in
    by.2 ∙ ap (λ (r : Ccb). Some (command_by c.args.ccb r)) row ∙ ap Some (sym c.command_of.ensures)
