-- what the structs of C's say
use Rattle.std.specs.Prelude.{ℕ, ◌≡◌, List, length, Option, Some, None, if◌then◌else◌, count_by}
use Rattle.cam_types.specs.Questions.{names_device}
use Rattle.cam_types.specs.Topology.{Topology}
use Rattle.cam_types.specs.declared.command.Command.{Command}
use Rattle.event_rules.specs.Counts.{caller_count, ccbs, error_count}
use Rattle.event_rules.specs.Head.{openings}
use Rattle.event_rules.specs.Stays.{queue}
use Rattle.event_rules.specs.declared.event.Event.{Event}
use Rattle.xpt_core.specs.Device.{is_in_flight_at, later, next_openings}
use Rattle.camxpt_c.specs.Codes.{class_code}
use Rattle.camxpt_c.specs.declared.shapes.CamxptCommand.{CamxptCommand}
use Rattle.camxpt_c.specs.declared.shapes.CamxptDone.{CamxptDone}
use Rattle.camxpt_c.specs.declared.shapes.CamxptCase.{CamxptCase}
use Rattle.camxpt_c.specs.declared.shapes.CamxptLook.{CamxptLook}
use Rattle.camxpt_c.specs.declared.shapes.CamxptDeviceCounts.{CamxptDeviceCounts}
use Rattle.xpt_state.specs.declared.done.Done as done
use Rattle.xpt_state.specs.declared.look.Case as case
use Rattle.xpt_state.specs.declared.look.Look as look

-- the command that the struct says
abbrev pub command_of : CamxptCommand → Command
command_of c = record { ccb = c.ccb; attempt = c.attempt; driver = c.driver; device = c.device; priority = c.priority }

-- what a completion comes to, and its CCB's pointer
abbrev pub IsDone : done.Done → ℕ → CamxptDone → Type 0
IsDone d user shape = (shape.class ≡ class_code d.class) × (shape.value ≡ d.value) × (shape.user ≡ user)

-- the CCB that waits for a decision, and its pointer
abbrev pub IsCase : case.Case → ℕ → CamxptCase → Type 0
IsCase c user shape = (shape.ccb ≡ c.ccb) × (shape.class ≡ class_code c.class) × (shape.user ≡ user)

-- all counts of a transport
abbrev pub IsLook : look.Look → CamxptLook → Type 0
IsLook l shape =
    (shape.length ≡ l.length) × (shape.round ≡ l.round) × (shape.in_flight ≡ l.in_flight) × (shape.cases ≡ l.cases)
    × (shape.waiting ≡ l.waiting) × (shape.heads ≡ l.heads)

-- the counts of a device
abbrev pub device_counts : Topology → List Event → ℕ → CamxptDeviceCounts
device_counts c events d = record {
  queued = length (queue events d);
  requeued = length (later events d);
  in_flight = count_by (is_in_flight_at events d) (ccbs events);
  openings = openings c events d;
  next_openings = next_openings c events d;
  callers = caller_count events d;
  errors = error_count events d;
}

-- the same, if there is such a device
abbrev pub counts_at : Topology → List Event → ℕ → Option CamxptDeviceCounts
counts_at c events d = if names_device c d then Some (device_counts c events d) else None
