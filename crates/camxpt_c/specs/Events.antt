-- what holds of the events
use Rattle.std.specs.Prelude.{ℕ, ℤ, List, Option, Some, None, MatchOption, ◌≡◌, length, map, take, drop, min}
use Rattle.event_rules.specs.declared.event.Event.{Event}
use Rattle.event_rules.specs.declared.event.Event.TheVariants.{Submit, Done}
use Rattle.event_rules.specs.declared.refusal.Refusal.{Refusal}
use Rattle.xpt_core.specs.Transport.{Transport}
use Rattle.xpt_core.specs.Takes.{refused}
use Rattle.xpt_state.specs.Replies.{done_of}
use Rattle.camxpt_c.specs.Codes.{code_of}
use Rattle.camxpt_c.specs.EventShapes.{event_of}
use Rattle.camxpt_c.specs.Attached.{Attached, user_of}
use Rattle.camxpt_c.specs.CallTerms.{Gives, IsCall, IsClosed, IsNumber}
use Rattle.camxpt_c.specs.Shapes.{IsDone}
use Rattle.camxpt_c.specs.declared.codes.TheConstants.{OK, E_CLOSED, E_KIND}
use Rattle.camxpt_c.specs.declared.event_shapes.CamxptEvent.{CamxptEvent}
use Rattle.camxpt_c.specs.declared.shapes.CamxptDone.{CamxptDone}

-- the number of a refusal, or of none
abbrev pub refusal_code : Option Refusal → ℤ
refusal_code (Some why) = code_of why
refusal_code None = OK

-- the event is taken or refused; of no kind, it changes nothing
abbrev pub IsTake : Option Event → Option Attached → Option Attached → ℤ → Type 0
IsTake (Some event) old new code = IsCall event 0 old new code
IsTake None old new code = MatchOption old (IsClosed new code) (λ p. (code ≡ E_KIND) × (new ≡ Some p))

-- a submit that is taken gives its CCB's number, and nothing else gives one
abbrev pub TakesNumber : Option Event → Option Attached → ℕ → ℕ → Type 0
TakesNumber (Some (Submit driver device priority retries flags)) old before ccb =
    Gives (Submit driver device priority retries flags) old (λ p. IsNumber p ccb) (ccb ≡ before)
TakesNumber _ old before ccb = ccb ≡ before

-- a completion that is taken gives what it comes to, and nothing else gives that
abbrev pub TakesDone : Option Event → Option Attached → CamxptDone → CamxptDone → Type 0
TakesDone (Some (Done ccb outcome)) old before done =
    Gives (Done ccb outcome) old (λ p. IsDone (done_of p.xpt.events ccb outcome) (user_of p ccb) done) (done ≡ before)
TakesDone _ old before done = done ≡ before

-- the number of the first cause that refuses the event
abbrev pub answer_of : Option Event → Transport → ℤ
answer_of (Some event) t = refusal_code (refused t event)
answer_of None t = E_KIND

abbrev pub IsAnswer : Option Event → Option Attached → ℤ → Type 0
IsAnswer event old code = MatchOption old (code ≡ E_CLOSED) (λ p. code ≡ answer_of event p.xpt)

-- The first structs say the first events, as many as there are of both, and the rest is as it was.
pub record AreCopied (events : List Event) (old new : List CamxptEvent) (count : ℕ) : Type 0 where
  pub most : count ≡ min (length events) (length old)
  pub copied : map event_of (take count new) ≡ map Some (take count events)
  pub rest : drop count new ≡ drop count old
  pub long : length new ≡ length old
