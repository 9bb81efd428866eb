use Rattle.std.proofs.Common.{◌≡◌, take}
use Rattle.std.specs.List.{flat_map}
use Rattle.capture.specs.Captured.{part_caps}
use Rattle.capture.proofs.recording.add_caps.Given as goal

-- the caps of the parts so far
abbrev pub invariant-loop-part : goal.invariant-loop-part
invariant-loop-part l =
    l.recorder ≡ record l.fn.recorder { caps = flat_map (part_caps l.config l.rated l.«open» l.spare l.requests l.fn.recorder.rounds) (take l.part-index l.parts) }
