use Rattle.std.proofs.Common.{◌∙◌, ap}
use Rattle.round_net.specs.Rows.{instance_of_rows}
use Rattle.round_net.specs.Pace.{at_pace}
use Rattle.camxpt.proofs.watch_run.sums_of.Goals as goal

-- another net's caps leave its stays
pub of_recording-requires-2-clause-pace : goal.of_recording-requires-2-clause-pace
unfolding at_pace instance_of_rows
of_recording-requires-2-clause-pace c = c.in_ok-paced.ensures.stays ∙ ap (λ n. (instance_of_rows n).stays) c.in_ok-at_pace.ensures.net
