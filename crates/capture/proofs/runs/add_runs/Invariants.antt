use Rattle.std.proofs.Common.{◌≡◌, ◌++◌, map, slice_index}
use Rattle.recording_file.specs.Runs.{run_starts}
use Rattle.capture.specs.Captured.{run_cap}
use Rattle.capture.proofs.runs.add_runs.Given as goal

-- the caps of the runs that began so far, after those of earlier parts
abbrev pub invariant-loop-before : goal.invariant-loop-before
invariant-loop-before l =
    l.recorder ≡ record l.fn.recorder { caps = l.fn.recorder.caps ++ map (run_cap l.part (slice_index l.row) l.fn.recorder.rounds) (run_starts (slice_index l.row) l.usual l.before) }
