use Rattle.std.proofs.Common.{◌∙◌, ap, sym, None, get_or, slice_get, option_and_then, option_copied}
use Rattle.cam_ccb.specs.Table.{find}
use Rattle.xpt_core.specs.Rows.{RowTable}
use Rattle.xpt_core.proofs.TableLemmas.{row_under}
use Rattle.xpt_core.proofs.ccbs.rows.Rows.get.Goals as goal

pub returns-in_err-handle : goal.returns-in_err-handle
returns-in_err-handle c =
    let at = sym c.in_err-handle.was ∙ c.handle_at.ensures ∙ ap (λ hs. slice_get hs c.args.ccb) c.deref.ensures.value in
    ap option_copied c.from_residual.ensures ∙ ap (option_and_then (find c.self.inside.slots)) at
    ∙ sym (row_under c.self.inside.slots c.self.inside.handles.items c.args.ccb) ∙ ap (λ (t : RowTable). get_or t.rows c.args.ccb None) c.self.view_is

pub returns : goal.returns
returns c =
    let at = sym c.in_ok-handle.was ∙ c.handle_at.ensures ∙ ap (λ hs. slice_get hs c.args.ccb) c.deref.ensures.value in
    c.get.ensures.value ∙ ap (option_and_then (find c.self.inside.slots)) at
    ∙ sym (row_under c.self.inside.slots c.self.inside.handles.items c.args.ccb) ∙ ap (λ (t : RowTable). get_or t.rows c.args.ccb None) c.self.view_is
