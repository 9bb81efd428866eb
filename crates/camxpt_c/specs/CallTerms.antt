-- What the calls do: what the handle has before and after, and the number that they answer.
use Rattle.std.specs.Prelude.{ℕ, ℤ, Option, None, Some, MatchOption, ◌≡◌, ◌⊎◌, length}
use Rattle.cam_types.specs.Questions.{lane_adapter}
use Rattle.event_rules.specs.Counts.{commands}
use Rattle.event_rules.specs.declared.event.Event.{Event}
use Rattle.event_rules.specs.declared.event.Event.TheVariants.{Send}
use Rattle.xpt_core.specs.Takes.{refused}
use Rattle.xpt_state.specs.Calls.{lane_refused}
use Rattle.xpt_state.specs.Idle.{idle}
use Rattle.xpt_state.specs.Replies.{next_command}
use Rattle.camxpt_c.specs.Attached.{Attached, attached_after, user_of}
use Rattle.camxpt_c.specs.Codes.{code_of, idle_code}
use Rattle.camxpt_c.specs.Shapes.{command_of}
use Rattle.camxpt_c.specs.declared.codes.TheConstants.{OK, E_CLOSED}
use Rattle.camxpt_c.specs.declared.shapes.CamxptCommand.{CamxptCommand}

-- the handle is closed, and stays closed
abbrev pub IsClosed : Option Attached → ℤ → Type 0
IsClosed new code = (code ≡ E_CLOSED) × (new ≡ None)

-- A closed handle stays closed. An open one takes the event, which is then after the others, with this pointer if it is a submit;
-- or the event is refused for the first cause that holds, whose number is the answer, and nothing changes.
abbrev pub IsCall : Event → ℕ → Option Attached → Option Attached → ℤ → Type 0
IsCall event user old new code =
    MatchOption old (IsClosed new code) (λ p.
    MatchOption (refused p.xpt event) ((code ≡ OK) × (new ≡ Some (attached_after p event user))) (λ why. (code ≡ code_of why) × (new ≡ Some p)))

-- If the event is taken, something is given, and else what was there is left.
abbrev pub Gives : Event → Option Attached → (Attached → Type 0) → Type 0 → Type 0
Gives event old Given Left = MatchOption old Left (λ p. MatchOption (refused p.xpt event) (Given p) (λ _. Left))

-- the number of the next CCB, which is the place of its pointer
abbrev pub IsNumber : Attached → ℕ → Type 0
IsNumber p ccb = (ccb ≡ commands p.xpt.events) × (ccb ≡ length p.users)

-- the command whose turn it is was sent: its send is after the other events, and the struct says it, with the pointer of its CCB
abbrev pub IsSent : Attached → ℕ → Option Attached → ℤ → CamxptCommand → Type 0
IsSent p lane new code shape =
    (code ≡ OK) × (new ≡ Some (attached_after p (Send lane shape.ccb) 0))
    × (next_command p.xpt.config p.xpt.events lane ≡ Some (command_of shape)) × (shape.user ≡ user_of p shape.ccb)

-- the lane is idle for the first cause that holds, and nothing changes
abbrev pub IsIdle : Attached → ℕ → Option Attached → ℤ → Type 0
IsIdle p lane new code =
    MatchOption (idle p.xpt.config p.xpt.events (lane_adapter p.xpt.config lane)) ⊥ (λ why. code ≡ idle_code why) × (new ≡ Some p)

-- A lane that isn't refused sends the command whose turn it is, or is idle if there is none. If it sends nothing, what was in
-- the struct is left.
abbrev pub IsSendNext : ℕ → Option Attached → Option Attached → ℤ → CamxptCommand → CamxptCommand → Type 0
IsSendNext lane old new code before shape =
    MatchOption old (IsClosed new code × (shape ≡ before)) (λ p.
    MatchOption (lane_refused p.xpt lane)
    (IsSent p lane new code shape ⊎ (IsIdle p lane new code × (shape ≡ before)))
    (λ why. (code ≡ code_of why) × (new ≡ Some p) × (shape ≡ before)))
