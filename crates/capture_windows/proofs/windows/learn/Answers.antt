use Rattle.std.proofs.Common.{arith, refl, None}
use Rattle.capture_windows.specs.Devices.{KnownDevice, WindowRoom}
use Rattle.capture_windows.proofs.KnownLemmas.{learnt_more}
use Rattle.capture_windows.proofs.windows.learn.Goals as goal

abbrev unknown : KnownDevice
unknown = record { known = record { in_flight = 0; service = None }; depth = None }

abbrev no_room : WindowRoom
no_room = record { slots = record { slots = 0; in_flight = 0; service = None; by_last_slot = 0 }; spare = None }

pub loop-number-init : goal.loop-number-init
loop-number-init c = record { size = refl; behind = λ device k room lt. absurd (omega arith); ahead = λ device k le. refl }

pub loop-number-preserved : goal.loop-number-preserved
loop-number-preserved c =
    learnt_more c.args.devices.now c.loop-number.devices c.args.rooms.now c.loop-number.number _ unknown c.index-rooms-number.result c.loop-number.invariant c.loop-number-test.true c.requires.size refl

pub returns-clause-known : goal.returns-clause-known
returns-clause-known c = λ device k room lt.
    let h = c.loop-number.invariant in
    let end = c.loop-number-test.false in
    h.behind device k room (omega arith)

pub returns-clause-service : goal.returns-clause-service
returns-clause-service c = λ k d lt.
    let h = c.loop-number.invariant in
    let size = h.size in
    let many = c.requires.size in
    let end = c.loop-number-test.false in
    let is = h.behind k d no_room (omega arith) in
    rw is (c.requires.service k no_room (omega arith))
