use Rattle.std.proofs.Common.{◌≡◌, ◌∙◌, refl}
use Rattle.round_net.specs.Instance.{rows}
use Rattle.round_net.specs.Rows.{cell, instance_of_rows}
use Rattle.round_net.proofs.CellLemmas.{cell_in}
use Rattle.round_net.proofs.pace.is_spare.Goals as goal

pub bounds-sent-cell : goal.bounds-sent-cell
bounds-sent-cell c =
    let net = instance_of_rows c.args.net.now in
    let at : c.cell.result ≡ cell net.rounds c.args.row c.args.round = c.cell.ensures ∙ rw c.rounds.ensures.same refl in
    rw at (cell_in c.args.sent.now net.rounds (rows net) c.args.row c.args.round c.requires.sent.cells c.requires.row c.requires.first c.requires.last)
