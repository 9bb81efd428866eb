use Rattle.std.proofs.Common.{◌≡◌, ◌<◌, ap, ◌∙◌, arith, not, ◌==◌}
use Rattle.round_net.specs.Words.{round, Transport}
use Rattle.event_rules.proofs.LimitLemmas.{round_first}
use Rattle.round_net.specs.Rows.{cell}
use Rattle.round_net.specs.Caps.{resource_count, resource_freezes}
use Rattle.round_net.proofs.CellLemmas.{cell_room}
use Rattle.round_net.proofs.MarkLemmas.{marks-none, marks-step, marks-all}
use Rattle.round_net.proofs.marks.mark_frozen.Goals as goal

pub mark-requires : goal.mark-requires
mark-requires c =
    let rows : c.resource_count-row-end.result ≡ resource_count c.args.replay.now.config = c.resource_count-row-end.ensures ∙ ap resource_count (c.config.ensures ∙ ap (λ (t : Transport). t.config) c.devices-devices.ensures) in
    let now : c.round.result ≡ round c.args.replay.now.events = c.round.ensures ∙ ap (λ (t : Transport). round t.events) c.devices-devices.ensures in
    let at : c.cell-at.result ≡ cell c.args.rounds c.loop-row.row (round c.args.replay.now.events) = c.cell-at.ensures ∙ ap (cell c.args.rounds c.loop-row.row) now in
    let lt : c.loop-row.row < resource_count c.args.replay.now.config = omega (arith, rows, c.loop-row-test.true) in
    cell_room (resource_count c.args.replay.now.config) c.args.rounds c.loop-row.row (round c.args.replay.now.events) c.cell-at.result _ (omega arith) lt (round_first c.args.replay.now.events) c.requires.within at

pub is_frozen-requires : goal.is_frozen-requires
is_frozen-requires c =
    let rows : c.resource_count-row-end.result ≡ resource_count c.args.replay.now.config = c.resource_count-row-end.ensures ∙ ap resource_count (c.config.ensures ∙ ap (λ (t : Transport). t.config) c.devices-devices.ensures) in
    omega (arith, rows, c.loop-row-test.true)

pub loop-row-init : goal.loop-row-init
loop-row-init c = marks-none (resource_count c.args.replay.now.config) c.args.rounds c.args.marks.now (round c.args.replay.now.events) (λ x. not (resource_freezes c.args.replay.now.config c.args.replay.now.events x == 0))

pub loop-row-preserved : goal.loop-row-preserved
loop-row-preserved c =
    let rows : c.resource_count-row-end.result ≡ resource_count c.args.replay.now.config = c.resource_count-row-end.ensures ∙ ap resource_count (c.config.ensures ∙ ap (λ (t : Transport). t.config) c.devices-devices.ensures) in
    let now : c.round.result ≡ round c.args.replay.now.events = c.round.ensures ∙ ap (λ (t : Transport). round t.events) c.devices-devices.ensures in
    let at : c.cell-at.result ≡ cell c.args.rounds c.loop-row.row (round c.args.replay.now.events) = c.cell-at.ensures ∙ ap (cell c.args.rounds c.loop-row.row) now in
    let lt : c.loop-row.row < resource_count c.args.replay.now.config = omega (arith, rows, c.loop-row-test.true) in
    marks-step (resource_count c.args.replay.now.config) c.args.rounds (round c.args.replay.now.events) c.loop-row.row c.cell-at.result c.args.marks.now c.loop-row.marks c.mark.new.marks (λ x. not (resource_freezes c.args.replay.now.config c.args.replay.now.events x == 0)) _
    (omega arith) lt (round_first c.args.replay.now.events) c.requires.within c.loop-row.invariant c.is_frozen.ensures at c.mark.ensures

pub returns : goal.returns
returns c =
    let rows : c.resource_count-row-end.result ≡ resource_count c.args.replay.now.config = c.resource_count-row-end.ensures ∙ ap resource_count (c.config.ensures ∙ ap (λ (t : Transport). t.config) c.devices-devices.ensures) in
    marks-all (resource_count c.args.replay.now.config) c.args.rounds (round c.args.replay.now.events) c.loop-row.row c.args.marks.now c.loop-row.marks (λ x. not (resource_freezes c.args.replay.now.config c.args.replay.now.events x == 0)) (omega (arith, rows, c.loop-row-test.false)) c.loop-row.invariant
