use Rattle.std.proofs.Common.{◌≡◌, take, map}
use Rattle.cam_types.specs.Topology.{unlinked}
use Rattle.cam_types.proofs.config.unlinked.Given as goal

abbrev pub invariant-loop-openings : goal.invariant-loop-openings
invariant-loop-openings l = l.adapters.items ≡ map unlinked (take l.openings-index l.openings)
