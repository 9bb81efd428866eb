use Rattle.std.specs.Prelude.{◌≡◌, Some, None, Result, Ok, Err}
use Rattle.cam_types.specs.Topology.{Topology, config_fault}
use Rattle.cam_types.specs.declared.config.ConfigError.{ConfigError}
use Rattle.cam_types.specs.declared.config.ConfigError.TheVariants.{Fault, OutOfMemory}

-- A configuration made from these lists has them and no fault; a fault is the first one. Memory may run out where
-- there is none.
abbrev pub MadeFrom : Topology → Result Topology ConfigError → Type 0
MadeFrom t (Ok c) = (config_fault t ≡ None) × (c ≡ t)
MadeFrom t (Err (Fault f)) = config_fault t ≡ Some f
MadeFrom t (Err OutOfMemory) = config_fault t ≡ None
