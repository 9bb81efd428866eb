-- a transport with a pointer for each of its CCBs
use Rattle.std.specs.Prelude.{◌≡◌, ℕ, List, [], ◌∷◌, ◌++◌, MatchResult, Result, Some, None, slice_index_or}
use Rattle.cam_types.specs.Questions.{lane_adapter}
use Rattle.event_rules.specs.declared.event.Event.{Event}
use Rattle.event_rules.specs.declared.event.Event.TheVariants.{Submit, Send}
use Rattle.event_rules.specs.declared.refusal.Refusal.{Refusal}
use Rattle.xpt_core.specs.Takes.{refused, with_event}
use Rattle.xpt_core.specs.Transport.{Transport}
use Rattle.xpt_state.specs.Calls.{lane_refused}
use Rattle.xpt_state.specs.Idle.{idle}
use Rattle.xpt_state.specs.Replies.{next_command, reply_of}
use Rattle.xpt_state.specs.declared.reply.Reply.{Reply}
use Rattle.xpt_state.specs.declared.reply.Sent.{Sent}
use Rattle.xpt_state.specs.declared.reply.Sent.TheVariants as sents

-- a transport, and the pointers that its submits were given, in their order: that of CCB k is number k
pub record Attached : Type 0 where
  pub xpt : Transport
  pub users : List ℕ

-- the pointer of a CCB, and null if there is no such CCB
abbrev pub user_of : Attached → ℕ → ℕ
user_of p ccb = slice_index_or p.users ccb 0

-- the pointers after an event with a pointer, which only a submit takes
abbrev pub users_after : Event → ℕ → List ℕ → List ℕ
users_after (Submit driver device priority retries flags) user users = users ++ user ∷ []
users_after _ user users = users

-- the event after the others, with its pointer
abbrev pub attached_after : Attached → Event → ℕ → Attached
attached_after p event user = record { xpt = with_event p.xpt event; users = users_after event user p.users }

-- the event is taken and answered as by the transport, or it is refused for the first cause and nothing changes
abbrev pub IsPortStep : Attached → Event → ℕ → Attached → Result Reply Refusal → Type 0
IsPortStep old event user new result =
    MatchResult result
    (λ reply. (refused old.xpt event ≡ None) × (new ≡ attached_after old event user) × (reply ≡ reply_of old.xpt.config old.xpt.events event))
    (λ why. (refused old.xpt event ≡ Some why) × (new ≡ old))

-- a lane sent its next command, or it was idle and nothing changed
abbrev pub IsPortSent : Attached → ℕ → Attached → Sent → Type 0
IsPortSent old lane new (sents.Command command) =
    (refused old.xpt (Send lane command.ccb) ≡ None) × (new ≡ attached_after old (Send lane command.ccb) 0)
    × (next_command old.xpt.config old.xpt.events lane ≡ Some command)
IsPortSent old lane new (sents.Idle why) =
    (idle old.xpt.config old.xpt.events (lane_adapter old.xpt.config lane) ≡ Some why) × (new ≡ old)

-- a lane that isn't refused sends or is idle; where it is refused nothing changes
abbrev pub IsPortLaneStep : Attached → ℕ → Attached → Result Sent Refusal → Type 0
IsPortLaneStep old lane new result =
    MatchResult result
    (λ sent. (lane_refused old.xpt lane ≡ None) × IsPortSent old lane new sent)
    (λ why. (lane_refused old.xpt lane ≡ Some why) × (new ≡ old))
