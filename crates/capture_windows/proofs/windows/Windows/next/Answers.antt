use Rattle.std.proofs.Common.{arith, None}
use Rattle.capture_windows.specs.Devices.{KnownDevice}
use Rattle.capture_windows.proofs.windows.Windows.next.Goals as goal

-- a device of which nothing is known
unknown : KnownDevice
unknown = record { known = record { in_flight = 0; service = None }; depth = None }

pub learn-requires-clause-service : goal.learn-requires-clause-service
learn-requires-clause-service c =
    rw (c.deref-2.ensures.value) (λ k d lt.
    let rooms = c.in_ok-taken.ensures.rooms in
    let size = rooms.size in
    let room = rooms.each k unknown d (omega (arith, lt)) in
    room.service)
