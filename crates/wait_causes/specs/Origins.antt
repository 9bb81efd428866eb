-- what is explained: a history, by its trace, or a recording
use Rattle.std.specs.Prelude.{◌≡◌, ℕ, true, false, List, [], Option, None, IfSome}
use Rattle.recording_file.specs.Names.{NameValue}
use Rattle.recording_file.specs.declared.span.Span.{Span}
use Rattle.round_net.specs.RecordedNets.{net_of_recording}
use Rattle.round_net.specs.Schedules.{cost}
use Rattle.wait_causes.specs.Words.{Topology, live_cost, WaitCause, NetRows, Instance, net_of, instance_of_rows, live_of_rows}
use Rattle.wait_causes.specs.Causes.{round_cause}
use Rattle.wait_causes.specs.RecordedCauses.{recorded_cause}
pub use Rattle.wait_causes.specs.declared.origin.Origin.{Origin}
use Rattle.wait_causes.specs.declared.origin.Origin.TheVariants as origin
pub use Rattle.wait_causes.specs.declared.known.Known.{Known}

-- its net, what there was to plan, and where the stays were sent
abbrev pub net_in : Origin → NetRows
net_in (origin.Trace past) = net_of past.config past.events
net_in (origin.Recording r) = net_of_recording r

abbrev pub instance_in : Origin → Instance
instance_in o = instance_of_rows (net_in o)

abbrev pub live_in : Origin → ℕ → ℕ
live_in o = live_of_rows (net_in o)

-- why the stays of a device waited in a round
abbrev pub cause_of : Origin → ℕ → ℕ → WaitCause
cause_of (origin.Trace past) = round_cause past.config past.events
cause_of (origin.Recording r) = recorded_cause (instance_in (origin.Recording r)) (live_in (origin.Recording r))

-- what its stays' waiting cost: of a history what its events say, if each stay was sent
abbrev pub IsLiveCost : Origin → ℕ → Type 0
IsLiveCost (origin.Trace past) n = IfSome (live_cost past.config past.events) (λ cost. n ≡ cost)
IsLiveCost (origin.Recording r) n = n ≡ cost (instance_in (origin.Recording r)) (live_in (origin.Recording r))

-- its adapters, devices, links and weights
abbrev pub config_in : Origin → Topology
config_in (origin.Trace past) = past.config
config_in (origin.Recording r) = r.config

-- what people call its drivers, devices, adapters and links: a history has no names
abbrev pub names_in : Origin → List NameValue
names_in (origin.Trace _) = []
names_in (origin.Recording r) = r.names

-- how long a round of it is, if that is known
abbrev pub unit_in : Origin → Option Span
unit_in (origin.Trace _) = None
unit_in (origin.Recording r) = r.unit

-- what it says of its stays beside where they were sent: a history nothing, and a recording their rounds at the recorded pace
abbrev pub known_of : Origin → Known
known_of (origin.Trace _) = record { pace = false; completions = false }
known_of (origin.Recording r) = record { pace = true; completions = r.completions }
