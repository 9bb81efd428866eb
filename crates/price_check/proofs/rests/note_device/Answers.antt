use Rattle.std.proofs.Common.{◌≡◌, ◌+◌, ◌-◌, ◌<◌, length, ◌∙◌, refl, arith}
use Rattle.price_check.specs.Words.{instance_of_rows, cell, pricing_of_rows}
use Rattle.round_net.proofs.CellLemmas.{cell_room}
use Rattle.price_check.specs.Rests.{IsCheapest}
use Rattle.price_check.proofs.RestLemmas.{noted_step}
use Rattle.price_check.proofs.rests.note_device.Goals as goal

pub loop-passed-preserved : goal.loop-passed-preserved
loop-passed-preserved c =
    let net = instance_of_rows c.args.net.now in
    let p = pricing_of_rows c.args.prices.now in
    let d = c.args.device in
    let passed = c.loop-passed.passed in
    let rests = c.loop-passed.rests in
    let next = c.cheaper_of-next.result in
    let more = c.loop-passed-test.true in
    let same = c.rounds-rounds.ensures.same in
    let round = net.rounds - passed in
    let here : c.rounds-rounds.result - passed ≡ round = rw same refl in
    let cheapest : IsCheapest net p c.args.weight d round next = rw here at c.cheaper_of-next.ensures in
    let at : c.cell.result ≡ cell net.rounds d round = c.cell.ensures ∙ rw same refl in
    let back : net.rounds - (passed + 1) + 1 ≡ round = omega arith in
    let room : cell net.rounds d round < length rests = cell_room net.devices net.rounds d round (cell net.rounds d round) (length rests) (omega (arith, c.loop-passed.auto.rests, c.requires.cells)) c.requires.device (omega arith) (omega arith) refl in
    rw (back, at) (record { next = cheapest; noted = noted_step net p c.args.weight d round next rests c.loop-passed.invariant.noted cheapest (omega arith) (omega arith) room })
