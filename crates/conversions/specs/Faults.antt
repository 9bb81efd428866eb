-- what is too much for a script
use Rattle.std.specs.Prelude.{◌≡◌, ℕ, if◌then◌else◌, nat_lt, List, length, find, Option, Some, None, option_map, ⊤}
use Rattle.std.specs.List.{sum_by}
use Rattle.std.specs.Option.{option_or}
use Rattle.trace_file.specs.declared.script_parser.TheConstants.{MAX_ROWS}
use Rattle.conversions.specs.Arrivals.{Arrival}
use Rattle.conversions.specs.Steps.{drivers_of}
pub use Rattle.conversions.specs.declared.fault.ScriptFault.{ScriptFault}
use Rattle.conversions.specs.declared.fault.ScriptFault.TheVariants.{Driver, Steps, OutOfMemory}

-- the first arrival of a driver beyond 7
unfoldable pub driver_fault : List Arrival → Option ScriptFault
driver_fault all = option_map (λ (a : Arrival). Driver a.submission.driver) (find (λ (a : Arrival). nat_lt 7 a.submission.driver) all)

-- too many steps
abbrev pub too_many_steps : ℕ → Option ScriptFault
too_many_steps n = if nat_lt MAX_ROWS n then Some (Steps n) else None

unfoldable pub steps_fault : List Arrival → Option ScriptFault
steps_fault all = too_many_steps (sum_by length (drivers_of all))

-- the first of them
abbrev pub arrivals_fault : List Arrival → Option ScriptFault
arrivals_fault all = option_or (driver_fault all) (steps_fault all)

-- A fault is the one that is known. Memory may run out in any case.
abbrev pub IsFault : Option ScriptFault → ScriptFault → Type 0
IsFault known OutOfMemory = ⊤
IsFault known fault = known ≡ Some fault
