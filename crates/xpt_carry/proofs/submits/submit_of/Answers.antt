use Rattle.std.proofs.Common.{Some, ap, sym, ◌∙◌, option_copied}
use Rattle.xpt_carry.proofs.RowLemmas.{submit_some, submit_none}
use Rattle.xpt_carry.proofs.submits.submit_of.Goals as goal

pub returns-in-Some : goal.returns-in-Some
returns-in-Some c =
    let row = sym c.ccb.ensures ∙ ap option_copied c.in-Some.is in
    ap Some c.submit_by.ensures ∙ sym (submit_some c.args.state.now.events c.args.stay.now c.in-Some.row.now row)

pub returns-in-None : goal.returns-in-None
returns-in-None c =
    let row = sym c.ccb.ensures ∙ ap option_copied c.in-None.is in
    sym (submit_none c.args.state.now.events c.args.stay.now c.requires row)
