-- the event that a struct of C's says
use Rattle.std.specs.Prelude.{ℕ, Bool, List, Option, Some, None, take, not, ◌==◌, if◌then◌else◌}
use Rattle.cam_types.specs.declared.flags.Flags.{Flags}
use Rattle.cam_types.specs.declared.outcome.Outcome.{Outcome}
use Rattle.event_rules.specs.declared.event.Event.{Event}
use Rattle.event_rules.specs.declared.event.Event.TheVariants as events
use Rattle.camxpt_c.specs.declared.event_shapes.CamxptEvent.{CamxptEvent}
use Rattle.camxpt_c.specs.declared.event_shapes.TheConstants.{SUBMIT, SEND, DONE, REQUEUE, FINISH, FREEZE_DEV, RELEASE_DEV, FREEZE_SIM, RELEASE_SIM, ADJUST, TICK}

-- a flag is set by any byte but 0
abbrev pub flags_of : CamxptEvent → Flags
flags_of s = record { qfreeze = not (s.qfreeze == 0); qfrzdis = not (s.qfrzdis == 0) }

-- the first bytes of the 18, as many as the length says
abbrev pub sense_of : CamxptEvent → List ℕ
sense_of s = take s.sense_len s.sense

abbrev pub outcome_of : CamxptEvent → Outcome
outcome_of s = record { status = s.status; scsi = s.scsi; sense = sense_of s }

-- by the number of its kind, if there is one
abbrev pub event_of : CamxptEvent → Option Event
event_of s =
    if s.kind == SUBMIT then Some (events.Submit s.driver s.device s.priority s.retries (flags_of s))
    else if s.kind == SEND then Some (events.Send s.lane s.ccb)
    else if s.kind == DONE then Some (events.Done s.ccb (outcome_of s))
    else if s.kind == REQUEUE then Some (events.Requeue s.ccb)
    else if s.kind == FINISH then Some (events.Finish s.ccb)
    else if s.kind == FREEZE_DEV then Some (events.FreezeDev s.device s.count)
    else if s.kind == RELEASE_DEV then Some (events.ReleaseDev s.device s.count)
    else if s.kind == FREEZE_SIM then Some (events.FreezeSim s.sim s.count)
    else if s.kind == RELEASE_SIM then Some (events.ReleaseSim s.sim)
    else if s.kind == ADJUST then Some (events.Adjust s.device s.openings)
    else if s.kind == TICK then Some events.Tick
    else None

-- a set flag is written as 1
abbrev pub byte_of : Bool → ℕ
byte_of flag = if flag then 1 else 0
