-- the script of a history
use Rattle.std.specs.Prelude.{Bool, true, false, length}
use Rattle.cam_types.specs.Bounds.{max_bounds}
use Rattle.event_rules.specs.declared.event.Event.{Event}
use Rattle.event_rules.specs.declared.event.Event.TheVariants.{FreezeDev, ReleaseDev, FreezeSim, ReleaseSim, Adjust}
use Rattle.event_rules.specs.Past.{Past}
use Rattle.trace_file.specs.Scenarios.{Scenario, scenario_by}
use Rattle.conversions.specs.Answers.{answers_of}
use Rattle.conversions.specs.Arrivals.{arrivals}
use Rattle.conversions.specs.Steps.{drivers_of}

-- a caller's freeze, release or adjustment, which a script of arrivals leaves out
abbrev pub is_setting : Event → Bool
is_setting (FreezeDev device count) = true
is_setting (ReleaseDev device count) = true
is_setting (FreezeSim sim count) = true
is_setting (ReleaseSim sim) = true
is_setting (Adjust device openings) = true
is_setting _ = false

-- its configuration, the largest limits, the steps of drivers that ask for its submits, and the outcomes of what lanes sent
abbrev pub scripted : Past → Scenario
scripted past = scenario_by past.config max_bounds (drivers_of (arrivals past.events)) (answers_of past.events (length past.config.lanes))
