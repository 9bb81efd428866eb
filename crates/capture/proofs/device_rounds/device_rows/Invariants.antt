use Rattle.std.proofs.Common.{take}
use Rattle.capture.specs.Loads.{AreRows, arrivals_in, sends_in}
use Rattle.capture.proofs.device_rounds.device_rows.Given as goal

-- the rows of the requests so far
abbrev pub invariant-loop-request : goal.invariant-loop-request
invariant-loop-request l = record {
  arrivals : AreRows (arrivals_in (take l.request-index l.requests)) l.devices l.last l.arrivals.items;
  sends : AreRows (sends_in (take l.request-index l.requests)) l.devices l.last l.sends.items;
}
