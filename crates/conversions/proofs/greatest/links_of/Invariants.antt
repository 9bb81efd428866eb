use Rattle.std.proofs.Common.{◌≡◌, map, take}
use Rattle.cam_types.specs.Lists.{prefixed}
use Rattle.conversions.specs.RecordingScript.{link_at}
use Rattle.conversions.proofs.greatest.links_of.Given as goal

-- the links so far
abbrev pub invariant-loop-number : goal.invariant-loop-number
invariant-loop-number l = l.links.items ≡ map (link_at l.recording) (prefixed (take l.number l.recording.config.links))
