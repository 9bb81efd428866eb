-- why a transport refuses an event, and what it is after one
use Rattle.std.specs.Prelude.{◌≡◌, [], ◌∷◌, ◌++◌, Option, Some, None}
use Rattle.xpt_core.specs.Words.{Event, refusal, Refusal}
use Rattle.xpt_core.specs.Transport.{Transport}

-- the first cause that refuses the event after those of the transport
abbrev pub refused : Transport → Event → Option Refusal
refused t event = refusal t.rules t.config t.events event

-- the event after those of the transport
abbrev pub with_event : Transport → Event → Transport
with_event t event = record t { events = t.events ++ event ∷ [] }

-- the event isn't refused, and is put after those before
abbrev pub IsTaken : Transport → Event → Transport → Type 0
IsTaken old event new = (refused old event ≡ None) × (new ≡ with_event old event)

-- the event is refused, and nothing changes
abbrev pub IsRefused : Transport → Event → Refusal → Transport → Type 0
IsRefused old event why new = (refused old event ≡ Some why) × (new ≡ old)
