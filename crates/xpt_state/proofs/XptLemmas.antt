-- what an event that isn't refused finds
use Rattle.std.proofs.Common.{◌≡◌, ℕ, true, Option, Some, None, ap}
use Rattle.std.specs.Option.{option_map_or}
use Rattle.xpt_state.specs.Words.{Command, Outcome, Event, Send, Done, is_legal, is_legal_event, alive_ccb, Ccb, Transport, refused}
use Rattle.event_rules.proofs.LegalLemmas.{legal-none}
use Rattle.xpt_state.specs.Replies.{done_of, next_command, Reply}
use Rattle.xpt_state.specs.Rows.{command_by, done_by}
use Rattle.xpt_state.specs.declared.reply.Reply.TheVariants as replies
use Rattle.xpt_state.proofs.RowLaws.{send_answers_by_row, done_answers_by_row}

pub legal_next : (t : Transport) (e : Event) → refused t e ≡ None → is_legal_event t.rules t.config (t.events, e) ≡ true
legal_next t e free = legal-none t.rules t.config t.events e free

-- a completion that isn't refused is of a CCB that is alive
pub done_row : (t : Transport) (ccb : ℕ) (outcome : Outcome) → is_legal t.rules t.config t.events ≡ true → refused t (Done ccb outcome) ≡ None →
    (row : Ccb) × (alive_ccb t.events ccb ≡ Some row) × (done_of t.events ccb outcome ≡ done_by row outcome)
done_row t ccb outcome legal free = done_answers_by_row t.rules t.config t.events ccb outcome legal (legal_next t (Done ccb outcome) free)

-- a send that isn't refused is of a CCB that is alive
pub send_row : (t : Transport) (lane ccb : ℕ) → is_legal t.rules t.config t.events ≡ true → refused t (Send lane ccb) ≡ None →
    (row : Ccb) × (alive_ccb t.events ccb ≡ Some row) × (next_command t.config t.events lane ≡ Some (command_by ccb row))
send_row t lane ccb legal free =
    let by = send_answers_by_row t.rules t.config t.events lane ccb legal (legal_next t (Send lane ccb) free) in
    (by.0, by.1, command_same (next_command t.config t.events lane) (command_by ccb by.0) by.2)
  where
    command_same : (o : Option Command) (k : Command) → ◌≡◌ {A = Reply} (option_map_or replies.Command o replies.Nothing) (replies.Command k) → o ≡ Some k
    command_same None k h = absurd (cc)
    command_same (Some j) k h = let same : j ≡ k = cc in ap Some same
