-- what a seat gains
use Rattle.std.proofs.Common.{◌≡◌, ℕ, List, [], ◌∷◌, ◌++◌, Option, Some, None, refl, ap, append-nil, option_to_list}
use Rattle.event_rules.specs.declared.event.Event.{Event}
use Rattle.event_rules.specs.declared.event.Event.TheVariants.{Send}
use Rattle.xpt_state.specs.declared.reply.Reply.TheVariants as replies
use Rattle.xpt_state.specs.declared.reply.Sent.{Sent}
use Rattle.xpt_state.specs.declared.reply.Sent.TheVariants as sents
use Rattle.xpt_lock.specs.Calls.{HasGained, IsTurn, sent_receipt}
use Rattle.xpt_lock.specs.Seats.{Held, SeatName}
use Rattle.xpt_lock.specs.Receipts.{Receipt}

-- a receipt for the event, after those that the seat held
pub gained : (name : SeatName) (before kept after : List Receipt) (old : Held) (r : Receipt) (event : Event) → record { name = name; receipts = before } ≡ old → kept ≡ before → after ≡ kept ++ r ∷ [] → r.event ≡ event →
    HasGained r event r.reply old (record { name = name; receipts = after })
gained name before kept after old r event is same more its =
    (its, refl, rw (← is, more, same) refl)

-- the receipt of a lane's turn, if there is one, after those that the seat held
pub turned : (name : SeatName) (at lane : ℕ) (before kept after : List Receipt) (old : Held) (sent : Sent) (receipt : Option Receipt) → record { name = name; receipts = before } ≡ old → kept ≡ before →
    after ≡ kept ++ option_to_list receipt → receipt ≡ sent_receipt at lane sent → IsTurn lane old (record { name = name; receipts = after }) (sent, receipt)
turned name at lane before kept after old (sents.Command command) (Some r) is same more its =
    let e : r ≡ record { at = at; event = Send lane command.ccb; reply = replies.Command command } = cc in
    (ap (λ (x : Receipt). x.event) e, ap (λ (x : Receipt). x.reply) e, rw (← is, more, same) refl)
turned name at lane before kept after old (sents.Command command) None is same more its = absurd (cc)
turned name at lane before kept after old (sents.Idle why) (Some r) is same more its = absurd (cc)
turned name at lane before kept after old (sents.Idle why) None is same more its =
    rw (← is, more, same) (ap (λ (rs : List Receipt). let h : Held = record { name = name; receipts = rs } in h) (append-nil before))
