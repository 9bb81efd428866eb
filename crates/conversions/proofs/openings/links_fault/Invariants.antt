use Rattle.std.proofs.Common.{◌≡◌, take, drop}
use Rattle.cam_types.specs.Lists.{prefixed, prefixed_after, first_answer}
use Rattle.conversions.specs.RecordingScript.{link_fault}
use Rattle.conversions.proofs.openings.links_fault.Given as goal

-- what is left gives the answer
abbrev pub invariant-loop-number : goal.invariant-loop-number
invariant-loop-number l = first_answer link_fault (prefixed_after (take l.number l.links) (drop l.number l.links)) ≡ first_answer link_fault (prefixed l.links)
