use Rattle.std.proofs.Common.{◌≡◌, take, map, None}
use Rattle.cam_types.specs.Lists.{prefixed, first_answer}
use Rattle.camxpt_c.specs.RecordShapes.{cap_of}
use Rattle.camxpt_c.specs.Recordings.{cap_fault}
use Rattle.camxpt_c.proofs.recording_items.add_caps.Given as goal

-- the caps so far are added, and nothing is wrong with them
abbrev pub invariant-loop-number : goal.invariant-loop-number
invariant-loop-number l = record {
  made : l.recorder ≡ record l.fn.recorder { caps = map cap_of (take l.number l.shapes) };
  none : first_answer (cap_fault l.fn.recorder.rounds l.fn.recorder.config) (prefixed (take l.number l.shapes)) ≡ None;
}
