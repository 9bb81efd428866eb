use Rattle.std.proofs.Common.{◌≡◌, take, map, None}
use Rattle.cam_types.specs.Lists.{prefixed, first_answer}
use Rattle.camxpt_c.specs.RecordShapes.{request_of}
use Rattle.camxpt_c.specs.Recordings.{request_fault}
use Rattle.camxpt_c.proofs.recording_items.add_requests.Given as goal

-- the requests so far are added, and nothing is wrong with them
abbrev pub invariant-loop-number : goal.invariant-loop-number
invariant-loop-number l = record {
  made : l.recorder ≡ record l.fn.recorder { requests = map request_of (take l.number l.shapes) };
  none : first_answer (request_fault l.fn.recorder.completions l.fn.recorder.rounds l.fn.recorder.config l.fn.recorder.caps) (prefixed (take l.number l.shapes)) ≡ None;
}
