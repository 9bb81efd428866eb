use Rattle.std.proofs.Common.{◌≡◌, ◌<◌, ◌≤◌, ◌∙◌, nat_lt, refl, sym, ap, arith, slice_index}
use Rattle.std.proofs.lemmas.Bool.Decides.{nat_tests}
use Rattle.round_net.specs.Rows.{cell, instance_of_rows, live_of_rows}
use Rattle.round_net.specs.Pace.{waiting, has_room}
use Rattle.round_net.proofs.PaceLemmas.{pace_sent, pace_kept, full_kept, none_kept, other_kept, waits_at, waits_inside}
use Rattle.round_net.proofs.pace.pace_cap.Goals as goal
use Rattle.round_net.proofs.pace.pace_cap.Goals.{else-row-devices-via-then-row-devices+then-waits-at-gt0+else-has_room, else-row-devices-via-then-row-devices+else-waits-at-gt0, else-row-devices-via-else-row-devices}

pub bounds-waits-at : goal.bounds-waits-at
bounds-waits-at c =
    let net = instance_of_rows c.args.net.now in
    let at : c.cell-at.result ≡ cell net.rounds c.args.row c.args.round = c.cell-at.ensures ∙ rw c.rounds.ensures.same refl in
    waits_inside net (live_of_rows c.args.net.now) c.args.waits.now c.args.row c.args.round c.cell-at.result c.requires.waits (rw c.devices.ensures.same at c.if-row-devices.true) c.requires.first c.requires.last at

pub returns-then-has_room : goal.returns-then-has_room
returns-then-has_room c =
    let net = instance_of_rows c.args.net.now in
    let live = live_of_rows c.args.net.now in
    let at : c.cell-at.result ≡ cell net.rounds c.args.row c.args.round = c.cell-at.ensures ∙ rw c.rounds.ensures.same refl in
    let within : c.args.row < net.devices = rw c.devices.ensures.same at c.if-row-devices.true in
    let waits = waits_at net live c.args.waits.now c.args.row c.args.round c.cell-at.result c.requires.waits within c.requires.first c.requires.last at in
    pace_sent net live c.args.row c.args.round (slice_index c.args.sent.now c.cell-at.result) within (rw waits at c.if-waits-at-gt0.true) (sym c.has_room.ensures ∙ c.if-has_room.true)
    (ap (slice_index c.args.sent.now) at ∙ c.requires.sent.each c.args.row c.args.round c.requires.row c.requires.first c.requires.last)

pub returns-else-row-devices : goal.returns-else-row-devices
returns-else-row-devices c =
    let net = instance_of_rows c.args.net.now in
    let live = live_of_rows c.args.net.now in
    let at : c.cell-at.result ≡ cell net.rounds c.args.row c.args.round = c.cell-at.ensures ∙ rw c.rounds.ensures.same refl in
    let own = nat_lt c.args.row net.devices in
    let some = nat_lt 0 (waiting net live c.args.row c.args.round) in
    let room = has_room net live c.args.row c.args.round in
    pace_kept net live c.args.row c.args.round c.cap.result (elim c.else-row-devices.branch [
      | else-row-devices-via-then-row-devices+then-waits-at-gt0+else-has_room w ↦ full_kept own some room (sym w.has_room.ensures ∙ w.if-has_room.false)
      | else-row-devices-via-then-row-devices+else-waits-at-gt0 w ↦
          let within : c.args.row < net.devices = rw c.devices.ensures.same at w.if-row-devices.true in
          let waits = waits_at net live c.args.waits.now c.args.row c.args.round c.cell-at.result c.requires.waits within c.requires.first c.requires.last at in
          let no : waiting net live c.args.row c.args.round ≤ 0 = rw waits at w.if-waits-at-gt0.false in
          none_kept own some room (grind (arith, nat_tests))
      | else-row-devices-via-else-row-devices w ↦
          let past : net.devices ≤ c.args.row = rw c.devices.ensures.same at w.if-row-devices.false in
          other_kept own some room (grind (arith, nat_tests))
    ]) c.cap.ensures.same
