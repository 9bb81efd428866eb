use Rattle.std.proofs.Common.{◌≡◌, rules, refl, ◌∙◌, None, length}
use Rattle.cam_types.specs.Topology.{lack}
use Rattle.cam_types.proofs.TopologyLemmas.{config_fault-partial}
use Rattle.cam_types.proofs.partial_config.PartialConfig.finish.Goals as goal

pub invariant_of-result : goal.invariant_of-result
invariant_of-result c = record { kept = config_fault-partial _ c.self.invariant ∙ search rules }

pub returns : goal.returns
returns c =
    let none : lack c.self.inside.weights.items (length c.self.inside.adapters.items) ≡ None = search rules in
    rw (← c.self.view_is) (rw (config_fault-partial _ c.self.invariant ∙ none) refl)
