-- the devices whose readiness an event may change
use Rattle.std.specs.Prelude.{ℕ, List}
use Rattle.std.specs.Option.{option_map_or}
use Rattle.xpt_core.specs.Words.{submission, Event, Submit, Send, Done, Requeue, Finish, FreezeDev, ReleaseDev, FreezeSim, ReleaseSim, Adjust, Tick, Submission}
pub use Rattle.xpt_core.specs.declared.queues.affected.Affected.{Affected}
pub use Rattle.xpt_core.specs.declared.queues.affected.Affected.TheVariants.{Nothing, One, All}

-- the device that a CCB was submitted to
abbrev pub affected_ccb : List Event → ℕ → Affected
affected_ccb events ccb = option_map_or (λ (s : Submission). One s.device) (submission events ccb) Nothing

-- the device that the event names, or its CCB's; a tick affects all; what befalls an adapter affects none, nor does an
-- adjustment, which counts from the next round on
abbrev pub affected_by : List Event → Event → Affected
affected_by events (Submit driver device priority retries flags) = One device
affected_by events (Send lane ccb) = affected_ccb events ccb
affected_by events (Done ccb outcome) = affected_ccb events ccb
affected_by events (Requeue ccb) = affected_ccb events ccb
affected_by events (Finish ccb) = affected_ccb events ccb
affected_by events (FreezeDev device count) = One device
affected_by events (ReleaseDev device count) = One device
affected_by events (Adjust device openings) = Nothing
affected_by events (FreezeSim sim count) = Nothing
affected_by events (ReleaseSim sim) = Nothing
affected_by events Tick = All
