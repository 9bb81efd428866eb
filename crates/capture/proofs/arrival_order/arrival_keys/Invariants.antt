use Rattle.std.proofs.Common.{◌≡◌, ◌++◌, drop}
use Rattle.capture.specs.Keys.{keys_from}
use Rattle.capture.proofs.arrival_order.arrival_keys.Given as goal

-- the keys so far, and then those of what is left
abbrev pub invariant-loop-place : goal.invariant-loop-place
invariant-loop-place l = l.keys.items ++ keys_from l.place (drop l.place l.requests) ≡ keys_from 0 l.requests
