use Rattle.std.proofs.Common.{◌≡◌, ◌∙◌, refl}
use Rattle.round_net.specs.Rows.{instance_of_rows, live_of_rows, cell}
use Rattle.wait_causes.proofs.SendsLemmas.{place_in, noted_before, noted_more, sound_place, few_noted}
use Rattle.wait_causes.proofs.sends.note.Goals as goal

pub put-requires-clause-within : goal.put-requires-clause-within
put-requires-clause-within c =
    let net = instance_of_rows c.args.net.now in
    let live = live_of_rows c.args.net.now in
    let s = c.args.stay in
    let at : c.cell-at.result ≡ cell net.rounds c.args.row (live s) = c.cell-at.ensures ∙ rw (c.rounds.ensures.same, c.live.ensures) refl in
    place_in net live s c.requires.apart.0 c.args.sends.now c.args.row c.cell-at.result c.requires.apart.1 (sound_place net live s c.args.row c.rounds.ensures.sound c.requires.stay c.requires.row) at

pub put-requires-clause-few : goal.put-requires-clause-few
put-requires-clause-few c =
    let net = instance_of_rows c.args.net.now in
    let live = live_of_rows c.args.net.now in
    let s = c.args.stay in
    let at : c.cell-at.result ≡ cell net.rounds c.args.row (live s) = c.cell-at.ensures ∙ rw (c.rounds.ensures.same, c.live.ensures) refl in
    few_noted net live s c.args.row _ c.rounds.ensures.sound c.requires.stay
    (noted_before net live s c.requires.apart.0 c.args.sends.now c.args.row c.cell-at.result c.requires.apart.1 (sound_place net live s c.args.row c.rounds.ensures.sound c.requires.stay c.requires.row) c.requires.apart.2 at)

pub returns-clause-noted : goal.returns-clause-noted
returns-clause-noted c = λ own fresh are.
    let net = instance_of_rows c.args.net.now in
    let live = live_of_rows c.args.net.now in
    let s = c.args.stay in
    let place = sound_place net live s c.args.row c.rounds.ensures.sound c.requires.stay c.requires.row in
    let at : c.cell-at.result ≡ cell net.rounds c.args.row (live s) = c.cell-at.ensures ∙ rw (c.rounds.ensures.same, c.live.ensures) refl in
    noted_more net live s own c.args.sends.now c.put.new.sends c.args.row c.cell-at.result c.weight.result are place fresh at c.weight.ensures.same
    (c.put.ensures _ (noted_before net live s own c.args.sends.now c.args.row c.cell-at.result are place fresh at))
