use Rattle.std.proofs.Common.{◌≡◌, [], ◌++◌}
use Rattle.conversions.specs.Recorded.{caps_of, recorded_with}
use Rattle.conversions.proofs.CapLemmas.{runs_before}
use Rattle.conversions.proofs.resource_caps.add_resource_caps.Given as goal

-- the caps of the runs so far, after those of the rows before
abbrev pub invariant-loop-before : goal.invariant-loop-before
invariant-loop-before l =
    l.recorder ≡ recorded_with l.history (caps_of l.history.config l.history.events l.row ++ runs_before l.history.config l.history.events l.row l.before) []
