use Rattle.std.proofs.Common.{◌∙◌, sym}
use Rattle.cam_types.proofs.TopologyLemmas.{unlinked_faults}
use Rattle.cam_types.proofs.config_rules.unlinked_fault.Goals as goal

pub returns : goal.returns
returns c = c.openings_faults.ensures ∙ sym (unlinked_faults c.args.adapters.now)
