use Rattle.std.proofs.Common.{◌∙◌, ap}
use Rattle.round_net.specs.Rows.{instance_of_rows}
use Rattle.round_net.proofs.RecordedLemmas.{recorded_counts}
use Rattle.camxpt.proofs.schedule_run.NewOrder.started.Goals as goal

-- a net has a stay for each request
pub rescheduled-requires : goal.rescheduled-requires
rescheduled-requires g c = c.in_ok-best-in-Best.ensures.stays ∙ ap (λ n. (instance_of_rows n).stays) c.in_ok-net.ensures.net ∙ (recorded_counts c.args.recording.now).1

pub rescheduled-requires-in-AsItComes : goal.rescheduled-requires-in-AsItComes
rescheduled-requires-in-AsItComes g c = c.in_ok-made-in-AsItComes.ensures.size ∙ ap (λ n. (instance_of_rows n).stays) c.in_ok-net.ensures.net ∙ (recorded_counts c.args.recording.now).1
