use Rattle.std.proofs.Common.{◌≡◌, map, take}
use Rattle.cam_types.specs.Lists.{prefixed}
use Rattle.round_net.specs.RecordedNets.{request_row}
use Rattle.round_net.proofs.recorded_rows.request_rows.Given as goal

-- the requests so far
abbrev pub invariant-loop-number : goal.invariant-loop-number
invariant-loop-number l = l.rows.items ≡ map (request_row l.config l.rounds) (prefixed (take l.number l.requests))
