use Rattle.std.proofs.Common.{◌≡◌, filter, take}
use Rattle.std.specs.Vec.{vec_capacity}
use Rattle.recorder.specs.NoteWindows.{is_kept}
use Rattle.recorder.proofs.staying.replace_by.Given as goal

-- those so far
abbrev pub invariant-loop-attempt : goal.invariant-loop-attempt
invariant-loop-attempt l = record {
  items : l.attempts.items ≡ filter is_kept (take l.attempt-index l.going_on);
  room : vec_capacity l.attempts ≡ vec_capacity l.fn.attempts;
}
