use Rattle.std.proofs.Common.{arith, take, get_or}
use Rattle.std.proofs.lemmas.List.{take_more}
use Rattle.recording_file.specs.declared.request.Request.{Request}
use Rattle.capture.proofs.DeviceLemmas.{no_request, rows_more, rows_passed}
use Rattle.capture.proofs.device_rounds.device_rows.Goals as goal
use Rattle.capture.proofs.device_rounds.device_rows.Goals.{then-request-devices, else-request-devices}

pub loop-request-preserved : goal.loop-request-preserved
loop-request-preserved c =
    let n = c.loop-request.request-index in
    let qs = take n c.args.requests.now in
    let q : Request = get_or c.args.requests.now n no_request in
    let h = c.loop-request.invariant in
    let within = c.requires.within n no_request c.loop-request-test.true in
    let sent = within.within in
    let last = within.last in
    let arrived = within.arrived in
    let whole = take_more c.args.requests.now n no_request c.loop-request-test.true in
    elim c.if-request-devices.branch [
      | then-request-devices w ↦ record {
        arrivals = rw (whole, w.arrivals-is) (rows_more (λ (p : Request). p.arrival) c.args.devices c.args.last qs q c.loop-request.arrivals.items w.index_mut.result.now w.count.new.row h.arrivals w.if-request-devices.true (omega (arith, sent, last, arrived)) w.index_mut.ensures.value w.count.ensures);
        sends = rw (whole, w.sends-is) (rows_more (λ (p : Request). p.sent) c.args.devices c.args.last qs q c.loop-request.sends.items w.index_mut-then-request-devices.result.now w.count-then-request-devices.new.row h.sends w.if-request-devices.true (omega (arith, sent, last)) w.index_mut-then-request-devices.ensures.value w.count-then-request-devices.ensures);
      }
      | else-request-devices w ↦ record {
        arrivals = rw (whole, w.arrivals-is) (rows_passed (λ (p : Request). p.arrival) c.args.devices c.args.last qs q c.loop-request.arrivals.items h.arrivals w.if-request-devices.false);
        sends = rw (whole, w.sends-is) (rows_passed (λ (p : Request). p.sent) c.args.devices c.args.last qs q c.loop-request.sends.items h.sends w.if-request-devices.false);
      }
    ]
