-- which wait events an event notifies
use Rattle.std.specs.Prelude.{Bool, true, false}
use Rattle.event_rules.specs.Event.{is_tick}
use Rattle.event_rules.specs.declared.event.Event.{Event}
use Rattle.event_rules.specs.declared.event.Event.TheVariants.{Submit, Requeue, Finish, ReleaseDev, ReleaseSim, Tick}
use Rattle.sense_class.specs.declared.class.Class.{Class}
use Rattle.sense_class.specs.declared.class.Class.TheVariants.{Complete}
use Rattle.xpt_state.specs.declared.reply.Reply.{Reply}
use Rattle.xpt_state.specs.declared.reply.Reply.TheVariants as replies
use Rattle.xpt_lock.specs.declared.wait_event.WaitEvent.{WaitEvent}
use Rattle.xpt_lock.specs.declared.wait_event.WaitEvent.TheVariants.{Round, Work, Case, Rest}

-- an adapter may have something to send after the event that it hadn't before
abbrev pub gives_work : Event → Bool
gives_work (Submit driver device priority retries flags) = true
gives_work (Requeue ccb) = true
gives_work (Finish ccb) = true
gives_work (ReleaseDev device count) = true
gives_work (ReleaseSim sim) = true
gives_work Tick = true
gives_work _ = false

abbrev pub is_unfinished : Class → Bool
is_unfinished Complete = false
is_unfinished _ = true

-- the reply to a completion whose class isn't Complete
abbrev pub is_failure : Reply → Bool
is_failure (replies.Done done) = is_unfinished done.class
is_failure _ = false

-- the event, which was answered by this reply, notifies the wait event
abbrev pub is_notified_by : Event → Reply → WaitEvent → Bool
is_notified_by event reply Round = is_tick event
is_notified_by event reply Work = gives_work event
is_notified_by event reply Case = is_failure reply
is_notified_by event reply Rest = false

-- it is this very wait event
abbrev pub is_wait_event : WaitEvent → WaitEvent → Bool
is_wait_event Round Round = true
is_wait_event Work Work = true
is_wait_event Case Case = true
is_wait_event Rest Rest = true
is_wait_event _ _ = false
