use Rattle.std.proofs.Common.{◌≡◌, map, take, zip}
use Rattle.cam_types.specs.Lists.{prefixed}
use Rattle.wait_causes.specs.Stays.{request_by}
use Rattle.wait_causes.proofs.requests.list_requests.Given as goal

-- the requests so far
abbrev pub invariant-loop-number : goal.invariant-loop-number
invariant-loop-number l = l.rows.items ≡ map (request_by l.config) (take l.number (zip (prefixed l.requests) (zip l.pace l.best)))
