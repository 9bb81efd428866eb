-- what a CCB's row says of its command and of its completion
use Rattle.std.specs.Prelude.{ℕ, not, ◌==◌, ◌&&◌}
use Rattle.xpt_state.specs.Words.{Command, Outcome, status_of, classify, Ccb}
use Rattle.xpt_state.specs.declared.done.Done as done
use Rattle.xpt_state.specs.Replies.{value_of}

-- the command by which the CCB of this number is sent
abbrev pub command_by : ℕ → Ccb → Command
command_by ccb row = record {
  ccb = ccb;
  attempt = row.attempt;
  driver = row.submission.driver;
  device = row.submission.device;
  priority = row.submission.priority;
}

-- what a completion of the CCB comes to
abbrev pub done_by : Ccb → Outcome → done.Done
done_by row outcome = record {
  class = classify outcome row.counted row.submission.retries;
  value = value_of outcome (not (status_of outcome == 1) && not row.submission.flags.qfrzdis);
}
