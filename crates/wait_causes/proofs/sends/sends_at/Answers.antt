use Rattle.std.proofs.Common.{◌≡◌, ◌∙◌, refl}
use Rattle.round_net.specs.Rows.{instance_of_rows, live_of_rows, cell}
use Rattle.wait_causes.proofs.SendsLemmas.{sends_inside, sends_found}
use Rattle.wait_causes.proofs.sends.sends_at.Goals as goal

pub bounds-sends-cell : goal.bounds-sends-cell
bounds-sends-cell c =
    let net = instance_of_rows c.args.net.now in
    let at : c.cell.result ≡ cell net.rounds c.args.row c.args.round = c.cell.ensures ∙ rw c.rounds.ensures.same refl in
    sends_inside net (live_of_rows c.args.net.now) c.args.sends.now c.args.row c.args.round c.cell.result c.requires.sends c.requires.row c.requires.first c.requires.last at

pub returns : goal.returns
returns c =
    let net = instance_of_rows c.args.net.now in
    let at : c.cell.result ≡ cell net.rounds c.args.row c.args.round = c.cell.ensures ∙ rw c.rounds.ensures.same refl in
    sends_found net (live_of_rows c.args.net.now) c.args.sends.now c.args.row c.args.round c.cell.result _ c.requires.sends c.requires.row c.requires.first c.requires.last at
