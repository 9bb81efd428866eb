-- what the calls of a seat leave there
use Rattle.std.specs.Prelude.{◌≡◌, ℕ, [], ◌∷◌, ◌++◌, Option, Some, None, Result, Ok, Err, MatchResult, IsTrue}
use Rattle.event_rules.specs.Legal.{is_legal}
use Rattle.event_rules.specs.declared.refusal.Refusal.{Refusal}
use Rattle.event_rules.specs.declared.event.Event.{Event}
use Rattle.event_rules.specs.declared.event.Event.TheVariants.{Send}
use Rattle.xpt_core.specs.Transport.{Transport}
use Rattle.xpt_state.specs.Looks.{look, next_case}
use Rattle.xpt_state.specs.Steps.{IsStep, IsLaneStep}
use Rattle.xpt_state.specs.declared.look.Case.{Case}
use Rattle.xpt_state.specs.declared.look.Look.{Look}
use Rattle.xpt_state.specs.declared.reply.Reply.{Reply}
use Rattle.xpt_state.specs.declared.reply.Reply.TheVariants as replies
use Rattle.xpt_state.specs.declared.reply.Sent.{Sent}
use Rattle.xpt_state.specs.declared.reply.Sent.TheVariants as sents
use Rattle.xpt_lock.specs.Seats.{Held}
use Rattle.xpt_lock.specs.declared.fault.SharedFault.{SharedFault}
use Rattle.xpt_lock.specs.declared.fault.SharedFault.TheVariants.{OutOfMemory, Refused}
use Rattle.xpt_lock.specs.Receipts.{Receipt}

-- one receipt more, which is this one, for this event and with this reply
abbrev pub HasGained : Receipt → Event → Reply → Held → Held → Type 0
HasGained receipt event reply old new =
    (receipt.event ≡ event) × (receipt.reply ≡ reply) × (new ≡ record old { receipts = old.receipts ++ receipt ∷ [] })

-- a call leaves the receipt that it gives, for its event and with its answer; where it fails it leaves nothing
abbrev pub IsCall : {A : Type 0} → (A → Receipt) → (A → Reply) → Event → Held → Held → Result A SharedFault → Type 0
IsCall receipt as_reply event old new result =
    MatchResult result (λ given. HasGained (receipt given) event (as_reply given) old new) (λ _. new ≡ old)

-- what a call gives: its answer and its receipt, or its receipt alone
abbrev pub receipt_of : {A : Type 0} → A × Receipt → Receipt
receipt_of given = given.1

abbrev pub answered : {A : Type 0} → (A → Reply) → A × Receipt → Reply
answered as_reply given = as_reply given.0

abbrev pub receipt_alone : Receipt → Receipt
receipt_alone receipt = receipt

-- the receipt of a lane's turn, at this place: one for the command that was sent, and none where the lane was idle
abbrev pub sent_receipt : ℕ → ℕ → Sent → Option Receipt
sent_receipt at lane (sents.Command command) = Some (record { at = at; event = Send lane command.ccb; reply = replies.Command command })
sent_receipt at lane (sents.Idle why) = None

-- a command leaves the receipt that is given with it, for its send by this lane; an idle answer leaves nothing
abbrev pub IsTurn : ℕ → Held → Held → Sent × Option Receipt → Type 0
IsTurn lane old new (sents.Command command, Some receipt) = HasGained receipt (Send lane command.ccb) (replies.Command command) old new
IsTurn lane old new (sents.Idle why, None) = new ≡ old
IsTurn lane old new _ = ⊥

-- the transport's events are legal by its rules
abbrev pub IsSound : Transport → Type 0
IsSound t = IsTrue (is_legal t.rules t.config t.events)

-- A sound transport answers so to the event: as a call of one thread does, with that call's refusals.
abbrev pub HasStep : {A : Type 0} → (A → Reply) → Event → Result A Refusal → Type 0
HasStep as_reply event answer = (old : Transport) × (new : Transport) × IsSound old × IsStep as_reply old event new answer

-- A sound transport answers so to a lane that asks for its next command.
abbrev pub HasLaneStep : ℕ → Result Sent Refusal → Type 0
HasLaneStep lane answer = (old : Transport) × (new : Transport) × IsSound old × IsLaneStep old lane new answer

-- why an event fails: there is no memory, or a sound transport refuses the event for this cause
abbrev pub IsWhy : Event → SharedFault → Type 0
IsWhy event OutOfMemory = Unit {0}
IsWhy event (Refused why) = HasStep (λ (r : Reply). r) event (Err why)

-- what a sound transport answers to the event, or why it fails
abbrev pub IsAnswer : {A : Type 0} → (A → Reply) → Event → Result A SharedFault → Type 0
IsAnswer as_reply event result = MatchResult result (λ given. HasStep as_reply event (Ok given)) (λ fault. IsWhy event fault)

-- the same of a lane that asks for its next command
abbrev pub IsLaneWhy : ℕ → SharedFault → Type 0
IsLaneWhy lane OutOfMemory = Unit {0}
IsLaneWhy lane (Refused why) = HasLaneStep lane (Err why)

abbrev pub IsLaneAnswer : ℕ → Result (Sent × Option Receipt) SharedFault → Type 0
IsLaneAnswer lane result = MatchResult result (λ given. HasLaneStep lane (Ok given.0)) (λ fault. IsLaneWhy lane fault)

-- there is this to see of a sound transport
abbrev pub IsLook : Look → Type 0
IsLook seen = (t : Transport) × IsSound t × (seen ≡ look t.config t.events)

-- this is the case that stands first in a sound transport
abbrev pub IsNextCase : Option Case → Type 0
IsNextCase case = (t : Transport) × IsSound t × (case ≡ next_case t.events)
