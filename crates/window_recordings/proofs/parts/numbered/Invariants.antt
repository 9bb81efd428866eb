use Rattle.std.proofs.Common.{◌≡◌, map, take}
use Rattle.window_recordings.specs.Recordings.{taken_before, unnumbered}
use Rattle.window_recordings.proofs.parts.numbered.Given as goal

-- those so far
abbrev pub invariant-loop-request : goal.invariant-loop-request
invariant-loop-request l = map unnumbered l.made.items ≡ map unnumbered (map (taken_before l.end) (take l.request-index l.requests))
