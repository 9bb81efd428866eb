-- what a transport answers to each event, by the events before it
use Rattle.std.specs.Prelude.{ℕ, ◌+◌, Bool, not, ◌&&◌, if◌then◌else◌, List, Option, is_some, option_and_then}
use Rattle.std.specs.Option.{option_map, option_map_or}
use Rattle.xpt_state.specs.Words.{Topology, Command, Outcome, status_of, classify, read_sense, is_some_and, is_erring, round, commands, submission, counted_requeues, retries_of, next, Event, Submit, Send, Done, Tick, Passage, Submission, lane_adapter}
use Rattle.xpt_state.specs.declared.done.Done as done
pub use Rattle.xpt_state.specs.declared.reply.Reply.{Reply}
use Rattle.xpt_state.specs.declared.reply.Reply.TheVariants as replies

-- the command by which a stay's CCB is sent
abbrev pub command_of : List Event → Passage → Option Command
command_of before p = option_map (λ (s : Submission). record {
  ccb = p.ccb;
  attempt = p.attempt;
  driver = s.driver;
  device = p.device;
  priority = p.priority;
}) (submission before p.ccb)

-- the command whose turn it is on the lane's adapter
abbrev pub next_command : Topology → List Event → ℕ → Option Command
next_command c before lane = option_and_then (command_of before) (next c before (lane_adapter c lane))

-- the kept sense data can be read
abbrev pub has_sense : Outcome → Bool
has_sense outcome = is_some (read_sense outcome.sense)

-- the status, with 0x40 where the completion froze its device's queue and 0x80 where there is sense data
abbrev pub value_of : Outcome → Bool → ℕ
value_of outcome froze = status_of outcome + (if froze then 0x40 else 0) + (if has_sense outcome then 0x80 else 0)

-- the completion errs, and its CCB doesn't ask to leave its device alone
abbrev pub freezes_by_done : List Event → ℕ → Outcome → Bool
freezes_by_done before ccb outcome =
    is_erring (Done ccb outcome) && is_some_and (λ (s : Submission). not s.flags.qfrzdis) (submission before ccb)

-- what a completion comes to
abbrev pub done_of : List Event → ℕ → Outcome → done.Done
done_of before ccb outcome = record {
  class = classify outcome (counted_requeues before ccb) (retries_of before ccb);
  value = value_of outcome (freezes_by_done before ccb outcome);
}

-- a submit answers the CCB's number, a send its command, a completion what it comes to, and a tick the new round
abbrev pub reply_of : Topology → List Event → Event → Reply
reply_of c before (Submit driver device priority retries flags) = replies.Ccb (commands before)
reply_of c before (Send lane ccb) = option_map_or replies.Command (next_command c before lane) replies.Nothing
reply_of c before (Done ccb outcome) = replies.Done (done_of before ccb outcome)
reply_of c before Tick = replies.Round (round before + 1)
reply_of c before _ = replies.Nothing

-- the reply of a call that only says that its event happened
abbrev pub nothing : {A : Type 0} → A → Reply
nothing _ = replies.Nothing
