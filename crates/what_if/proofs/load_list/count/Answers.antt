use Rattle.std.proofs.Common.{◌≡◌, ◌∙◌, refl}
use Rattle.round_net.specs.Instance.{rows}
use Rattle.round_net.specs.Rows.{cell, instance_of_rows}
use Rattle.round_net.proofs.CellLemmas.{cell_in}
use Rattle.round_net.proofs.LoadListLemmas.{counted_in}
use Rattle.what_if.proofs.load_list.count.Goals as goal

pub bounds-counts-at : goal.bounds-counts-at
bounds-counts-at c =
    let net = instance_of_rows c.args.net.now in
    let at : c.cell-at.result ≡ cell net.rounds c.args.row c.args.round = c.cell-at.ensures ∙ rw c.rounds.ensures.same refl in
    rw at (cell_in c.args.counts.now net.rounds (rows net) c.args.row c.args.round c.requires.cells c.requires.row c.requires.first c.requires.last)

pub bounds-counts-at-2 : goal.bounds-counts-at-2
bounds-counts-at-2 c =
    let net = instance_of_rows c.args.net.now in
    let at : c.cell-at.result ≡ cell net.rounds c.args.row c.args.round = c.cell-at.ensures ∙ rw c.rounds.ensures.same refl in
    rw at (cell_in c.args.counts.now net.rounds (rows net) c.args.row c.args.round c.requires.cells c.requires.row c.requires.first c.requires.last)

pub returns-clause-counted : goal.returns-clause-counted
returns-clause-counted c = λ k.
    let net = instance_of_rows c.args.net.now in
    let at : c.cell-at.result ≡ cell net.rounds c.args.row c.args.round = c.cell-at.ensures ∙ rw c.rounds.ensures.same refl in
    counted_in c.args.counts.now (rows net) net.rounds c.args.row c.args.round c.cell-at.result k c.requires.cells c.requires.row c.requires.first c.requires.last at
