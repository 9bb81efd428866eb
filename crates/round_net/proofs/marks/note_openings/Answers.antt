use Rattle.std.proofs.Common.{◌≡◌, ◌<◌, refl, ap, ◌∙◌, arith}
use Rattle.round_net.specs.Words.{round, Transport}
use Rattle.event_rules.proofs.LimitLemmas.{round_first}
use Rattle.round_net.specs.Rows.{cell}
use Rattle.round_net.specs.Caps.{resource_count, resource_openings}
use Rattle.round_net.proofs.CellLemmas.{cell_room}
use Rattle.round_net.proofs.MarkLemmas.{sets-step}
use Rattle.round_net.proofs.marks.note_openings.Goals as goal

pub bounds-numbers-at : goal.bounds-numbers-at
bounds-numbers-at c =
    let rows : c.resource_count-row-end.result ≡ resource_count c.args.replay.now.config = c.resource_count-row-end.ensures ∙ ap resource_count (c.config.ensures ∙ ap (λ (t : Transport). t.config) c.devices-devices.ensures) in
    let now : c.round.result ≡ round c.args.replay.now.events = c.round.ensures ∙ ap (λ (t : Transport). round t.events) c.devices-devices.ensures in
    let at : c.cell-at.result ≡ cell c.args.rounds c.loop-row.row (round c.args.replay.now.events) = c.cell-at.ensures ∙ ap (cell c.args.rounds c.loop-row.row) now in
    let lt : c.loop-row.row < resource_count c.args.replay.now.config = omega (arith, rows, c.loop-row-test.true) in
    cell_room (resource_count c.args.replay.now.config) c.args.rounds c.loop-row.row (round c.args.replay.now.events) c.cell-at.result _ (omega arith) lt (round_first c.args.replay.now.events) c.requires.within at

pub openings-requires : goal.openings-requires
openings-requires c =
    let rows : c.resource_count-row-end.result ≡ resource_count c.args.replay.now.config = c.resource_count-row-end.ensures ∙ ap resource_count (c.config.ensures ∙ ap (λ (t : Transport). t.config) c.devices-devices.ensures) in
    omega (arith, rows, c.loop-row-test.true)

pub loop-row-preserved : goal.loop-row-preserved
loop-row-preserved c =
    let rows : c.resource_count-row-end.result ≡ resource_count c.args.replay.now.config = c.resource_count-row-end.ensures ∙ ap resource_count (c.config.ensures ∙ ap (λ (t : Transport). t.config) c.devices-devices.ensures) in
    let now : c.round.result ≡ round c.args.replay.now.events = c.round.ensures ∙ ap (λ (t : Transport). round t.events) c.devices-devices.ensures in
    let at : c.cell-at.result ≡ cell c.args.rounds c.loop-row.row (round c.args.replay.now.events) = c.cell-at.ensures ∙ ap (cell c.args.rounds c.loop-row.row) now in
    let lt : c.loop-row.row < resource_count c.args.replay.now.config = omega (arith, rows, c.loop-row-test.true) in
    sets-step (resource_count c.args.replay.now.config) c.args.rounds (round c.args.replay.now.events) c.loop-row.row c.cell-at.result c.openings.result c.args.numbers.now c.loop-row.numbers _ (resource_openings c.args.replay.now.config c.args.replay.now.events)
    (omega arith) lt (round_first c.args.replay.now.events) c.requires.within c.loop-row.invariant c.openings.ensures at refl
