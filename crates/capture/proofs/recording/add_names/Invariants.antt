use Rattle.std.proofs.Common.{◌≡◌, ◌++◌, length, vec_len, None}
use Rattle.cam_types.specs.Lists.{prefixed, first_answer}
use Rattle.capture.specs.Faults.{name_fault}
use Rattle.capture.proofs.recording.add_names.Given as goal

abbrev pub decreases-loop-names : goal.decreases-loop-names
decreases-loop-names l = vec_len l.names

-- the names so far have no fault, and with those that are left they are all
abbrev pub invariant-loop-names : goal.invariant-loop-names
invariant-loop-names l = record {
  recorder : l.recorder ≡ record l.fn.recorder { names = l.recorder.names };
  all : l.recorder.names ++ l.names.items ≡ l.fn.names.items;
  none : first_answer (name_fault l.recorder.config) (prefixed l.recorder.names) ≡ None;
  number : l.number ≡ length l.recorder.names;
}
