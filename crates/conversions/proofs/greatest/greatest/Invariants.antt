use Rattle.std.proofs.Common.{◌≡◌}
use Rattle.recording_file.specs.Caps.{cap_in}
use Rattle.conversions.specs.RecordingScript.{greatest_to}
use Rattle.conversions.proofs.greatest.greatest.Given as goal

-- the greatest so far
abbrev pub invariant-loop-before : goal.invariant-loop-before
invariant-loop-before l = l.most ≡ greatest_to (cap_in l.recording.config l.recording.caps l.part) l.before
