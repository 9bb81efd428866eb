-- what holds of sends and of idle lanes
use Rattle.std.specs.Prelude.{◌≡◌, ℕ, not, List, Some, None, Ok, is_some, IsTrue, Result, option_map}
use Rattle.xpt_state.specs.Words.{Topology, Command, next, Event, Send, Passage, Rules, is_legal_event, lane_adapter, refusal, Refusal, Transport, refused}
use Rattle.xpt_state.specs.declared.reply.Reply.TheVariants as replies
use Rattle.xpt_state.specs.Steps.{IsStep, IsLaneStep, Sent}
use Rattle.xpt_state.specs.declared.reply.Sent.TheVariants as sents
use Rattle.xpt_state.specs.Idle.{idle}
use Rattle.xpt_state.specs.Sends.{lane_refusal}

-- An adapter has a cause to be idle exactly where it has no next stay.
abbrev pub IdleIsNoNext : Type 0
IdleIsNoNext = (c : Topology) (events : List Event) (a : ℕ) → is_some (idle c events a) ≡ not (is_some (next c events a))

-- Where a lane isn't refused, no send of the next stay of its adapter is.
abbrev pub NextIsUnrefused : Type 0
NextIsUnrefused =
    (rules : Rules) (c : Topology) (events : List Event) (lane : ℕ) (p : Passage)
    → lane_refusal rules c events lane ≡ None → next c events (lane_adapter c lane) ≡ Some p
    → refusal rules c events (Send lane p.ccb) ≡ None

-- Where it is refused, each of its sends is, for the same cause.
abbrev pub LaneIsRefusedAsItsSends : Type 0
LaneIsRefusedAsItsSends =
    (rules : Rules) (c : Topology) (events : List Event) (lane ccb : ℕ) (why : Refusal)
    → lane_refusal rules c events lane ≡ Some why → refusal rules c events (Send lane ccb) ≡ Some why

-- A legal send is of the CCB of the next stay of its lane's adapter.
abbrev pub LegalIsNext : Type 0
LegalIsNext =
    (rules : Rules) (c : Topology) (events : List Event) (lane ccb : ℕ)
    → IsTrue (is_legal_event rules c (events, Send lane ccb))
    → option_map (λ (p : Passage). p.ccb) (next c events (lane_adapter c lane)) ≡ Some ccb

-- Where a send isn't refused, the lane's turn is that send, and its command the reply.
abbrev pub LegalSendIsMade : Type 0
LegalSendIsMade =
    (old new : Transport) (lane ccb : ℕ) (result : Result Sent Refusal)
    → refused old (Send lane ccb) ≡ None → IsLaneStep old lane new result
    → (command : Command) × (result ≡ Ok (sents.Command command)) × (command.ccb ≡ ccb) × IsStep replies.Command old (Send lane ccb) new (Ok command)
