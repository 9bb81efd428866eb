-- the numbers that the functions for C answer
use Rattle.std.specs.Prelude.{ℕ, ℤ, pos}
use Rattle.cam_types.specs.declared.config_fault.ConfigFault.{ConfigFault}
use Rattle.cam_types.specs.declared.config_fault.ConfigFault.TheVariants as faults
use Rattle.event_rules.specs.declared.refusal.Refusal.{Refusal}
use Rattle.event_rules.specs.declared.refusal.Refusal.TheVariants as refusals
use Rattle.recording_file.specs.declared.cause.RequestFault.{RequestFault}
use Rattle.recording_file.specs.declared.cause.RequestFault.TheVariants as causes
use Rattle.sense_class.specs.declared.class.Class.{Class}
use Rattle.sense_class.specs.declared.class.Class.TheVariants as classes
use Rattle.sense_class.specs.declared.class.Why.TheVariants as failures
use Rattle.recorder.specs.declared.note_fault.NoteFault.{NoteFault}
use Rattle.recorder.specs.declared.note_fault.NoteFault.TheVariants as notes
use Rattle.xpt_state.specs.declared.idle.Idle.{Idle}
use Rattle.xpt_state.specs.declared.idle.Idle.TheVariants as idles

-- a refusal's place in the list of causes
abbrev pub code_of : Refusal → ℤ
code_of (refusals.HistoryFull _) = pos 1
code_of refusals.NoDevice = pos 2
code_of refusals.NoAdapter = pos 3
code_of refusals.NoLane = pos 4
code_of refusals.NoCcb = pos 5
code_of refusals.BadPriority = pos 6
code_of refusals.BadRetries = pos 7
code_of refusals.BadCount = pos 8
code_of refusals.BadOpenings = pos 9
code_of refusals.BadStatus = pos 10
code_of refusals.CcbFull = pos 11
code_of refusals.StaysFull = pos 12
code_of refusals.NotQueued = pos 13
code_of refusals.WrongLane = pos 14
code_of refusals.DeviceFrozen = pos 15
code_of refusals.AdapterFrozen = pos 16
code_of refusals.NoOpening = pos 17
code_of refusals.NotHead = pos 18
code_of refusals.NotInFlight = pos 19
code_of refusals.NotRecovering = pos 20
code_of refusals.WrongDecision = pos 21
code_of refusals.FreezeOverflow = pos 22
code_of refusals.ReleaseTooMany = pos 23
code_of refusals.InFlight = pos 24
code_of refusals.RoundsFull = pos 25

abbrev pub idle_code : Idle → ℤ
idle_code idles.Empty = pos 32
idle_code idles.AdapterFrozen = pos 33
idle_code idles.AdapterBusy = pos 34
idle_code idles.DevicesHeld = pos 35

abbrev pub fault_code : ConfigFault → ℤ
fault_code faults.NoAdapters = pos 48
fault_code faults.TooMany = pos 49
fault_code faults.BadOpenings = pos 50
fault_code faults.NoAdapter = pos 51
fault_code faults.BadAddress = pos 52
fault_code faults.DoubleDevice = pos 53
fault_code faults.BadWeight = pos 54
fault_code faults.NoLink = pos 55

abbrev pub cause_code : RequestFault → ℤ
cause_code causes.NoDevice = pos 64
cause_code causes.BadPriority = pos 65
cause_code causes.BadWindow = pos 66
cause_code causes.Early = pos 67
cause_code causes.Late = pos 68
cause_code causes.DeviceFull = pos 69
cause_code causes.AdapterFull = pos 70
cause_code causes.LinkFull = pos 71

abbrev pub class_code : Class → ℕ
class_code classes.Complete = 0
class_code classes.FreeRequeue = 1
class_code classes.CountedRequeue = 2
class_code (classes.Fail failures.Recovered) = 3
class_code (classes.Fail failures.Spent) = 4
class_code (classes.Fail failures.Other) = 5

abbrev pub note_code : NoteFault → ℤ
note_code notes.NoDevice = pos 80
note_code notes.NoDriver = pos 81
note_code notes.NoPriority = pos 82
note_code notes.TimeFalls = pos 83
note_code notes.AlreadyOpen = pos 84
note_code notes.Full = pos 85
note_code notes.NotOpen = pos 86
note_code notes.AlreadyStarted = pos 87
note_code notes.NotStarted = pos 88
note_code notes.StartBeforeArrival = pos 89
note_code notes.DoneBeforeStart = pos 90
