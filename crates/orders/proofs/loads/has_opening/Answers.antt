use Rattle.std.proofs.Common.{◌≡◌, ◌∙◌, refl}
use Rattle.round_net.specs.Instance.{rows}
use Rattle.round_net.specs.Rows.{cell, instance_of_rows}
use Rattle.round_net.proofs.CellLemmas.{cell_in}
use Rattle.orders.proofs.loads.has_opening.Goals as goal

pub bounds-loads-cell : goal.bounds-loads-cell
bounds-loads-cell c =
    let net = instance_of_rows c.args.net.now in
    let at : c.cell.result ≡ cell net.rounds c.args.row c.args.round = c.cell.ensures ∙ rw c.rounds.ensures.same refl in
    rw at (cell_in c.args.loads.now net.rounds (rows net) c.args.row c.args.round c.requires.cells c.requires.row c.requires.first c.requires.last)
