-- The parts of a port, and after one event more.
use Rattle.std.proofs.Common.{◌≡◌, ℕ, ◌+◌, ◌<◌, ◌≤◌, true, List, [], ◌∷◌, length, refl, sym, ap, ◌∙◌, arith, Option, Some, None, Result, Ok, Err, length-append, option_to_list, IfSome, vec_len, vec_capacity}
use Rattle.event_rules.specs.Counts.{commands, submissions}
use Rattle.event_rules.specs.Event.{submission_of}
use Rattle.event_rules.specs.Legal.{is_legal_event}
use Rattle.event_rules.specs.declared.event.Event.{Event}
use Rattle.event_rules.specs.declared.event.Event.TheVariants.{Submit, Send}
use Rattle.event_rules.specs.declared.refusal.Refusal.{Refusal}
use Rattle.event_rules.specs.declared.submission.Submission.{Submission}
use Rattle.event_rules.proofs.LegalLemmas.{legal-none}
use Rattle.event_rules.proofs.LimitLemmas.{room_submit}
use Rattle.event_rules.proofs.TotalLaws.{commands-push, commands-stays}
use Rattle.xpt_core.specs.Takes.{refused, with_event}
use Rattle.xpt_core.specs.Transport.{Transport}
use Rattle.xpt_state.specs.Steps.{IsLaneStep}
use Rattle.xpt_state.specs.declared.reply.Sent.{Sent}
use Rattle.xpt_state.specs.declared.reply.Sent.TheVariants as sents
use Rattle.camxpt_c.specs.Attached.{users_after}
use Rattle.camxpt_c.specs.PortSound.{IsPort}
use Rattle.camxpt_c.specs.declared.port.Port.TheInside.{Inside}

pub no_commands : commands [] ≡ 0
unfolding submissions
no_commands = refl

-- one pointer more for a submit
users-push : (e : Event) (user : ℕ) (us : List ℕ) → length (users_after e user us) ≡ length us + length (option_to_list (submission_of e))
users-push (Submit driver device priority retries flags) user us = omega (arith, length-append us (user ∷ []))
users-push _ user us = omega arith

-- an event that the transport takes
pub push_sound : (i i' : Inside) → IsPort i → (e : Event) (user : ℕ) → i'.xpt ≡ with_event i.xpt e → i'.users.items ≡ users_after e user i.users.items → vec_capacity i'.users ≡ vec_capacity i.users → IsPort i'
push_sound i i' is e user made users room = record {
  numbered = rw made (ap length users ∙ users-push e user i.users.items ∙ ap (λ n. n + length (option_to_list (submission_of e))) is.numbered ∙ sym (commands-push i.xpt.events e));
  room = rw (made, room) is.room;
}

-- a transport to which nothing has happened
same_sound : (i : Inside) → IsPort i → (new : Transport) → new ≡ i.xpt → IsPort (record i { xpt = new })
same_sound i is new same = record {
  numbered = is.numbered ∙ ap (λ (t : Transport). commands t.events) (sym same);
  room = rw same is.room;
}

-- one of whose lanes sent a command, was idle or was refused
pub lane_sound : (i : Inside) → IsPort i → (lane : ℕ) (new : Transport) (r : Result Sent Refusal) → IsLaneStep i.xpt lane new r → IsPort (record i { xpt = new })
lane_sound i is lane new (Ok (sents.Command command)) h = push_sound i (record i { xpt = new }) is (Send lane command.ccb) 0 h.1.0.1 refl refl
lane_sound i is lane new (Ok (sents.Idle why)) h = same_sound i is new h.1.1
lane_sound i is lane new (Err why) h = same_sound i is new h.1

-- a submit finds room for one pointer more
module _ (i : Inside) (is : IsPort i) where
  abbrev t : Transport
  t = i.xpt

  room_for : (e : Event) → is_legal_event t.rules t.config (t.events, e) ≡ true → IfSome (submission_of e) (λ _. commands t.events < t.rules.stays)
  room_for (Submit driver device priority retries flags) legal = omega (arith, room_submit t.rules t.config t.events driver device priority retries flags legal, commands-stays t.events)
  room_for _ legal = tt

  room_within : (o : Option Submission) (n m : ℕ) → IfSome o (λ _. commands t.events < t.rules.stays) → n ≡ commands t.events → t.rules.stays ≤ m → IfSome o (λ _. n < m)
  room_within None n m room same le = tt
  room_within (Some s) n m room same le = omega (arith, room, same, le)

  pub user_room : (e : Event) → refused t e ≡ None → IfSome (submission_of e) (λ _. vec_len i.users < vec_capacity i.users)
  user_room e free = room_within (submission_of e) (vec_len i.users) (vec_capacity i.users) (room_for e (legal-none t.rules t.config t.events e free)) (i.users.ok.0 ∙ is.numbered) is.room
