use Rattle.std.proofs.Common.{◌≡◌, take}
use Rattle.conversions.specs.Rescheduled.{begun}
use Rattle.conversions.proofs.rescheduling.add_names.Given as goal

abbrev pub invariant-loop-name : goal.invariant-loop-name
invariant-loop-name l = l.recorder ≡ record (begun l.recording) { names = take l.name-index l.recording.names }
