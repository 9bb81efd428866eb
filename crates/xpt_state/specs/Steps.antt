-- what the calls of a transport come to
use Rattle.std.specs.Prelude.{◌≡◌, ℕ, Some, None, MatchResult, Result}
use Rattle.xpt_state.specs.Words.{lane_adapter, Refusal, Event, Send, Transport, IsTaken, IsRefused}
use Rattle.xpt_state.specs.Replies.{next_command, reply_of, Reply}
pub use Rattle.xpt_state.specs.declared.reply.Sent.{Sent}
use Rattle.xpt_state.specs.declared.reply.Sent.TheVariants as sents
use Rattle.xpt_state.specs.Calls.{lane_refused}
use Rattle.xpt_state.specs.Idle.{idle}

-- A call takes its event and answers the event's reply, or refuses it for the first cause.
abbrev pub IsStep : {A : Type 0} → (A → Reply) → Transport → Event → Transport → Result A Refusal → Type 0
IsStep as_reply old event new result =
    MatchResult result (λ given. IsTaken old event new × (as_reply given ≡ reply_of old.config old.events event)) (λ why. IsRefused old event why new)

-- a lane sent its next command, or it was idle and nothing changed
abbrev pub IsSent : Transport → ℕ → Transport → Sent → Type 0
IsSent old lane new (sents.Command command) = IsTaken old (Send lane command.ccb) new × (next_command old.config old.events lane ≡ Some command)
IsSent old lane new (sents.Idle why) = (idle old.config old.events (lane_adapter old.config lane) ≡ Some why) × (new ≡ old)

-- A lane that isn't refused sends or is idle; where it is refused nothing changes.
abbrev pub IsLaneStep : Transport → ℕ → Transport → Result Sent Refusal → Type 0
IsLaneStep old lane new result =
    MatchResult result (λ sent. (lane_refused old lane ≡ None) × IsSent old lane new sent) (λ why. (lane_refused old lane ≡ Some why) × (new ≡ old))
