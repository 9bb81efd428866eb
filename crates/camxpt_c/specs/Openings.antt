-- what a handle is opened with, and why it isn't
use Rattle.std.specs.Prelude.{ℤ, [], ◌≡◌, ◌⊎◌, Option, Some, None, MatchOption, Result, Ok, Err, if◌then◌else◌}
use Rattle.cam_types.specs.Topology.{Topology, config_fault}
use Rattle.cam_types.specs.Bounds.{Bounds, are_within}
use Rattle.cam_types.specs.declared.config.ConfigError.{ConfigError}
use Rattle.cam_types.specs.declared.config.ConfigError.TheVariants as errors
use Rattle.event_rules.specs.Legal.{rules_of}
use Rattle.xpt_core.specs.Transport.{Transport}
use Rattle.camxpt_c.specs.Attached.{Attached}
use Rattle.camxpt_c.specs.Codes.{fault_code}
use Rattle.camxpt_c.specs.declared.codes.TheConstants.{OK, E_OPEN, E_MEMORY, E_LIMIT}

-- a transport of this configuration to which nothing has happened
abbrev pub opened : Topology → Bounds → Transport
opened c bounds = record { config = c; rules = rules_of bounds; events = [] }

-- the limits, if each is in its range
abbrev pub limits_in : Bounds → Option Bounds
limits_in bounds = if are_within bounds then Some bounds else None

abbrev pub error_code : ConfigError → ℤ
error_code (errors.Fault fault) = fault_code fault
error_code errors.OutOfMemory = E_MEMORY

-- there is no memory, or the configuration breaks this rule first
abbrev pub IsFailure : Topology → ℤ → Type 0
IsFailure c code = (code ≡ E_MEMORY) ⊎ MatchOption (config_fault c) ⊥ (λ fault. code ≡ fault_code fault)

-- the configuration breaks no rule and is made, or it isn't
abbrev pub IsConfigOf : Topology → Result Topology ℤ → Type 0
IsConfigOf c (Ok made) = (config_fault c ≡ None) × (made ≡ c)
IsConfigOf c (Err code) = IsFailure c code

-- the same without a pointer
abbrev pub opened_port : Topology → Bounds → Attached
opened_port c bounds = record { xpt = opened c bounds; users = [] }

-- the transport is there, or the handle stays closed
abbrev pub IsOpened : Topology → Bounds → Option Attached → ℤ → Type 0
IsOpened c bounds new code =
    ((code ≡ OK) × (config_fault c ≡ None) × (new ≡ Some (opened_port c bounds))) ⊎ (IsFailure c code × (new ≡ None))

-- An open handle stays as it is. A closed one is opened, if each limit is in its range.
abbrev pub IsOpening : Topology → Bounds → Option Attached → Option Attached → ℤ → Type 0
IsOpening c bounds old new code =
    MatchOption old
    (MatchOption (limits_in bounds) ((code ≡ E_LIMIT) × (new ≡ None)) (λ within. IsOpened c within new code))
    (λ p. (code ≡ E_OPEN) × (new ≡ Some p))
