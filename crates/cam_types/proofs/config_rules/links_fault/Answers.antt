use Rattle.cam_types.specs.Topology.{link_fault}
use Rattle.cam_types.proofs.config_rules.links_fault.Goals as goal

pub returns : goal.returns
unfolding link_fault
returns c = c.openings_faults.ensures
