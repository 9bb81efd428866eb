-- what the tests of equality on events, replies and receipts say
use Rattle.std.proofs.Common.{◌≡◌, ℕ, Bool, true, false, List, ◌++◌, length, take, replicate, ◌-◌, refl, sym, ap, ◌∙◌, ◌==◌, ◌&&◌, nat_eq}
use mathlib.Core.Bool.{beq}
use Rattle.std.specs.Cmp.Lexicographic.{same_text}
use Rattle.std.proofs.Math.Seq.{take-append_seam}
use lib.Pointwise.{pointwise}
use Rattle.std.proofs.lemmas.Bool.{and_parts, eqb-true}
use Rattle.cam_types.specs.declared.flags.Flags.{Flags}
use Rattle.cam_types.specs.declared.outcome.Outcome.{Outcome}
use Rattle.cam_types.specs.contracts.flags.FlagsPartialEq.TheImpl as flags
use Rattle.cam_types.specs.contracts.outcome.OutcomePartialEq.TheImpl as outcomes
use Rattle.cam_types.specs.contracts.sense_bytes.SenseBytesPartialEq.TheImpl as senses
use Rattle.cam_types.specs.declared.command.Command.{Command}
use Rattle.cam_types.specs.contracts.command.CommandPartialEq.TheImpl as commands
use Rattle.sense_class.specs.declared.class.Class as class
use Rattle.sense_class.specs.declared.class.Class.TheVariants.{Complete, FreeRequeue, CountedRequeue, Fail}
use Rattle.sense_class.specs.contracts.class.ClassPartialEq.TheImpl as classes
use Rattle.sense_class.specs.declared.class.Why as why
use Rattle.sense_class.specs.declared.class.Why.TheVariants.{Recovered, Spent, Other}
use Rattle.sense_class.specs.contracts.class.WhyPartialEq.TheImpl as whys
use Rattle.xpt_state.specs.declared.done.Done as done
use Rattle.xpt_state.specs.contracts.done.DonePartialEq.TheImpl as dones
use Rattle.xpt_state.specs.declared.reply.Reply.{Reply}
use Rattle.xpt_state.specs.declared.reply.Reply.TheVariants as replies
use Rattle.xpt_state.specs.contracts.reply.ReplyPartialEq.TheImpl as replied
use Rattle.xpt_lock.specs.Receipts.{Receipt}
use Rattle.xpt_lock.specs.contracts.receipt.ReceiptPartialEq.TheImpl as receipts
use Rattle.event_rules.specs.declared.event.Event.{Event}
use Rattle.event_rules.specs.declared.event.Event.TheVariants.{Submit, Send, Done, Requeue, Finish, FreezeDev, ReleaseDev, FreezeSim, ReleaseSim, Adjust, Tick}
use Rattle.event_rules.specs.contracts.event.EventPartialEq.TheImpl as events

no : false ≡ true → ⊥
no e = cc

same_bool : (a b : Bool) → beq a b ≡ true → a ≡ b
same_bool true true h = refl
same_bool false false h = refl
same_bool true false h = absurd (no h)
same_bool false true h = absurd (no h)

flags_from : (a b : Flags) → a.qfreeze ≡ b.qfreeze → a.qfrzdis ≡ b.qfrzdis → a ≡ b
flags_from a b e f = ap (λ (x : Bool). let r : Flags = record { qfreeze = x; qfrzdis = a.qfrzdis } in r) e ∙ ap (λ (x : Bool). let r : Flags = record { qfreeze = b.qfreeze; qfrzdis = x } in r) f

same_flags : (a b : Flags) → flags.ghosts.eq a b ≡ true → a ≡ b
same_flags a b h = let p = and_parts (beq a.qfreeze b.qfreeze) (beq a.qfrzdis b.qfrzdis) h in flags_from a b (same_bool _ _ p.0) (same_bool _ _ p.1)

same_sense : (a b : List ℕ) → senses.ghosts.eq a b ≡ true → a ≡ b
same_sense a b h =
    let left : List ℕ = a ++ replicate (18 - length a) 0 in
    let right : List ℕ = b ++ replicate (18 - length b) 0 in
    let p = and_parts (pointwise nat_eq left right) (length a == length b) h in
    let n : length a ≡ length b = eqb-true (length a) (length b) p.1 in
    sym (take-append_seam a (replicate (18 - length a) 0)) ∙ ap (take (length a)) (same_text left right (sym p.0)) ∙ ap (λ k. take k right) n ∙ take-append_seam b (replicate (18 - length b) 0)

outcome_from : (a b : Outcome) → a.status ≡ b.status → a.scsi ≡ b.scsi → a.sense ≡ b.sense → a ≡ b
outcome_from a b e f g =
    ap (λ (x : ℕ). let r : Outcome = record { status = x; scsi = a.scsi; sense = a.sense } in r) e
    ∙ ap (λ (x : ℕ). let r : Outcome = record { status = b.status; scsi = x; sense = a.sense } in r) f
    ∙ ap (λ (x : List ℕ). let r : Outcome = record { status = b.status; scsi = b.scsi; sense = x } in r) g

same_outcome : (a b : Outcome) → outcomes.ghosts.eq a b ≡ true → a ≡ b
same_outcome a b h =
    let p = and_parts (a.status == b.status) ((a.scsi == b.scsi) && senses.ghosts.eq a.sense b.sense) h in
    let q = and_parts (a.scsi == b.scsi) (senses.ghosts.eq a.sense b.sense) p.1 in
    outcome_from a b (eqb-true _ _ p.0) (eqb-true _ _ q.0) (same_sense _ _ q.1)

pub same_event : (a b : Event) → events.ghosts.eq a b ≡ true → a ≡ b
same_event (Requeue a) (Requeue b) h = ap Requeue (eqb-true a b h)
same_event (Send a b) (Send a' b') h = let p = and_parts (a == a') (b == b') h in rw (eqb-true a a' p.0, eqb-true b b' p.1) refl
same_event (Submit a b c d e) (Submit a' b' c' d' e') h =
    let p = and_parts (a == a') ((b == b') && ((c == c') && ((d == d') && flags.ghosts.eq e e'))) h in
    let q = and_parts (b == b') ((c == c') && ((d == d') && flags.ghosts.eq e e')) p.1 in
    let r = and_parts (c == c') ((d == d') && flags.ghosts.eq e e') q.1 in
    let s = and_parts (d == d') (flags.ghosts.eq e e') r.1 in
    rw (eqb-true a a' p.0, eqb-true b b' q.0, eqb-true c c' r.0, eqb-true d d' s.0, same_flags e e' s.1) refl
same_event (Done a b) (Done a' b') h = let p = and_parts (a == a') (outcomes.ghosts.eq b b') h in rw (eqb-true a a' p.0, same_outcome b b' p.1) refl
same_event Tick Tick h = refl
same_event (Finish a) (Finish b) h = ap Finish (eqb-true a b h)
same_event (ReleaseSim a) (ReleaseSim b) h = ap ReleaseSim (eqb-true a b h)
same_event (FreezeDev a b) (FreezeDev a' b') h = let p = and_parts (a == a') (b == b') h in rw (eqb-true a a' p.0, eqb-true b b' p.1) refl
same_event (ReleaseDev a b) (ReleaseDev a' b') h = let p = and_parts (a == a') (b == b') h in rw (eqb-true a a' p.0, eqb-true b b' p.1) refl
same_event (FreezeSim a b) (FreezeSim a' b') h = let p = and_parts (a == a') (b == b') h in rw (eqb-true a a' p.0, eqb-true b b' p.1) refl
same_event (Adjust a b) (Adjust a' b') h = let p = and_parts (a == a') (b == b') h in rw (eqb-true a a' p.0, eqb-true b b' p.1) refl
same_event _ _ h = absurd (no h)

command_from : (a b : Command) → a.ccb ≡ b.ccb → a.attempt ≡ b.attempt → a.driver ≡ b.driver → a.device ≡ b.device → a.priority ≡ b.priority → a ≡ b
command_from a b e f g h i =
    let made : ℕ → ℕ → ℕ → ℕ → ℕ → Command = λ v w x y z. record { ccb = v; attempt = w; driver = x; device = y; priority = z } in
    let whole : made a.ccb a.attempt a.driver a.device a.priority ≡ made b.ccb b.attempt b.driver b.device b.priority = rw (e, f, g, h, i) refl in
    whole

pub same_command : (a b : Command) → commands.ghosts.eq a b ≡ true → a ≡ b
same_command a b h =
    let p = and_parts (a.ccb == b.ccb) ((a.attempt == b.attempt) && ((a.driver == b.driver) && ((a.device == b.device) && (a.priority == b.priority)))) h in
    let q = and_parts (a.attempt == b.attempt) ((a.driver == b.driver) && ((a.device == b.device) && (a.priority == b.priority))) p.1 in
    let r = and_parts (a.driver == b.driver) ((a.device == b.device) && (a.priority == b.priority)) q.1 in
    let s = and_parts (a.device == b.device) (a.priority == b.priority) r.1 in
    command_from a b (eqb-true _ _ p.0) (eqb-true _ _ q.0) (eqb-true _ _ r.0) (eqb-true _ _ s.0) (eqb-true _ _ s.1)

same_why : (a b : why.Why) → whys.ghosts.eq a b ≡ true → a ≡ b
same_why Recovered Recovered h = refl
same_why Spent Spent h = refl
same_why Other Other h = refl
same_why _ _ h = absurd (no h)

same_class : (a b : class.Class) → classes.ghosts.eq a b ≡ true → a ≡ b
same_class Complete Complete h = refl
same_class FreeRequeue FreeRequeue h = refl
same_class CountedRequeue CountedRequeue h = refl
same_class (Fail a) (Fail b) h = ap Fail (same_why a b h)
same_class _ _ h = absurd (no h)

done_from : (a b : done.Done) → a.class ≡ b.class → a.value ≡ b.value → a ≡ b
done_from a b e f =
    ap (λ (x : class.Class). let r : done.Done = record { class = x; value = a.value } in r) e
    ∙ ap (λ (x : ℕ). let r : done.Done = record { class = b.class; value = x } in r) f

same_done : (a b : done.Done) → dones.ghosts.eq a b ≡ true → a ≡ b
same_done a b h = let p = and_parts (classes.ghosts.eq a.class b.class) (a.value == b.value) h in done_from a b (same_class _ _ p.0) (eqb-true _ _ p.1)

same_reply : (a b : Reply) → replied.ghosts.eq a b ≡ true → a ≡ b
same_reply (replies.Ccb a) (replies.Ccb b) h = ap replies.Ccb (eqb-true a b h)
same_reply (replies.Command a) (replies.Command b) h = ap replies.Command (same_command a b h)
same_reply (replies.Done a) (replies.Done b) h = ap replies.Done (same_done a b h)
same_reply (replies.Round a) (replies.Round b) h = ap replies.Round (eqb-true a b h)
same_reply replies.Nothing replies.Nothing h = refl
same_reply _ _ h = absurd (no h)

receipt_from : (a b : Receipt) → a.at ≡ b.at → a.event ≡ b.event → a.reply ≡ b.reply → a ≡ b
receipt_from a b e f g =
    ap (λ (x : ℕ). let r : Receipt = record { at = x; event = a.event; reply = a.reply } in r) e
    ∙ ap (λ (x : Event). let r : Receipt = record { at = b.at; event = x; reply = a.reply } in r) f
    ∙ ap (λ (x : Reply). let r : Receipt = record { at = b.at; event = b.event; reply = x } in r) g

pub same_receipt : (a b : Receipt) → receipts.ghosts.eq a b ≡ true → a ≡ b
same_receipt a b h =
    let p = and_parts (a.at == b.at) (events.ghosts.eq a.event b.event && replied.ghosts.eq a.reply b.reply) h in
    let q = and_parts (events.ghosts.eq a.event b.event) (replied.ghosts.eq a.reply b.reply) p.1 in
    receipt_from a b (eqb-true _ _ p.0) (same_event _ _ q.0) (same_reply _ _ q.1)
