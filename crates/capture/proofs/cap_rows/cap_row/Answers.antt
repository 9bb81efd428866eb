use Rattle.std.proofs.Common.{◌∙◌, sym}
use Rattle.std.proofs.lemmas.Result.{IfOk-weaker}
use Rattle.capture.proofs.CapRowLemmas.{row_of_open, row_of_own}
use Rattle.capture.proofs.cap_rows.cap_row.Goals as goal

pub returns-then-is_open : goal.returns-then-is_open
returns-then-is_open c =
    let a = c.args in
    IfOk-weaker c.open_row.result _ _ (λ row h. row_of_open a.config.now a.rated.now a.«open».now a.spare.now a.requests.now a.part a.last row.items (sym c.is_open.ensures ∙ c.if-is_open.true) h) c.open_row.ensures

pub returns-else-is_open : goal.returns-else-is_open
returns-else-is_open c =
    let a = c.args in
    IfOk-weaker c.own_row.result _ _ (λ row h. row_of_own a.config.now a.rated.now a.«open».now a.spare.now a.requests.now a.part a.last row.items (sym c.is_open.ensures ∙ c.if-is_open.false) h) c.own_row.ensures
