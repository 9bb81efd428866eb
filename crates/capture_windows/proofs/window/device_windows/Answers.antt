use Rattle.std.proofs.Common.{ap, arith, length, length-append, sym, None, subst}
use Rattle.slots.specs.declared.numbered.InFlight.{InFlight}
use Rattle.capture_windows.specs.Counted.{IsCount}
use Rattle.capture_windows.specs.Devices.{KnownDevice, attempts_of}
use Rattle.capture_windows.specs.Windows.{IsFault}
use Rattle.capture_windows.specs.declared.window_fault.WindowFault.{WindowFault}
use Rattle.capture_windows.proofs.ListLemmas.{each_more}
use Rattle.capture_windows.proofs.WindowLemmas.{fault_found, own_read, rooms_more}
use Rattle.capture_windows.proofs.GroupLemmas.{lists_length}
use Rattle.capture_windows.proofs.RoomLemmas.{device_length}
use Rattle.capture_windows.proofs.window.device_windows.Goals as goal

abbrev no_device : KnownDevice
no_device = record { known = record { in_flight = 0; service = None }; depth = None }

pub index-requires : goal.index-requires
index-requires c =
    let long = lists_length (λ d. attempts_of d c.args.attempts.now) (length c.args.devices.now) c.in_ok-own.own.items c.in_ok-own.ensures in
    omega (arith, long, c.loop-device-test.true, c.in_ok-own.own.ok.0)

pub device_window-requires-clause-few : goal.device_window-requires-clause-few
device_window-requires-clause-few c =
    let own = own_read c.args.attempts.now (length c.args.devices.now) c.loop-device.device c.in_ok-own.own.items c.index.result.now c.deref.result.now c.in_ok-own.ensures c.loop-device-test.true c.index.ensures c.deref.ensures.value in
    omega (arith, ap length own, device_length c.loop-device.device c.args.attempts.now, c.requires.few)

pub returns-in-Err-clause-err : goal.returns-in-Err-clause-err
returns-in-Err-clause-err c =
    let own = own_read c.args.attempts.now (length c.args.devices.now) c.loop-device.device c.in_ok-own.own.items c.index.result.now c.deref.result.now c.in_ok-own.ensures c.loop-device-test.true c.index.ensures c.deref.ensures.value in
    subst (λ (e : WindowFault). IsFault c.args.span c.args.attempts.now c.args.devices.now e) (sym c.fault_of.ensures)
    (fault_found c.args.span c.args.attempts.now c.args.devices.now c.loop-device.device c.deref.result.now no_device c.in-Err.fault c.loop-device-test.true own c.in-Err.ensures.err)

pub loop-device-preserved : goal.loop-device-preserved
loop-device-preserved c =
    let h = c.loop-device.invariant in
    let n = c.loop-device.device in
    let made = c.in_ok-add-in-Ok.ensures in
    let own = own_read c.args.attempts.now (length c.args.devices.now) n c.in_ok-own.own.items c.index.result.now c.deref.result.now c.in_ok-own.ensures c.loop-device-test.true c.index.ensures c.deref.ensures.value in
    record {
      rooms = rooms_more c.args.span c.args.rounds c.args.attempts.now c.args.devices.now _ _ n c.in-Ok.found.room no_device (sym h.size) c.loop-device-test.true made.rooms h.rooms (c.in-Ok.ensures.room c.args.attempts.now n own);
      size = omega (arith, h.size, simp length-append at (ap length made.rooms));
      counts = each_more (λ k (x : InFlight). IsCount c.args.span c.args.attempts.now k x) _ _ n c.in-Ok.found.counts (sym h.each) made.counts h.counts (c.in-Ok.ensures.counts c.args.attempts.now n own);
      each = omega (arith, h.each, simp length-append at (ap length made.counts));
    }

pub returns-clause-rooms : goal.returns-clause-rooms
returns-clause-rooms c =
    let h = c.loop-device.invariant in
    record {
      size = omega (arith, h.size, c.loop-device-test.false, c.loop-device.auto.device-end);
      each = λ device known room lt. h.rooms device room (omega (arith, lt, c.loop-device-test.false)) known;
    }
