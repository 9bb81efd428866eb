use Rattle.std.proofs.Common.{◌≡◌, ◌∙◌, sym, Some, None, []}
use Rattle.cam_types.specs.Topology.{config_fault}
use Rattle.conversions.proofs.NetLemmas.{without_lanes_kept}
use Rattle.conversions.proofs.bare_config.without_lanes.Goals as goal

pub unreachable-requires : goal.unreachable-requires
unreachable-requires c =
    let faulty = rw c.in-Err-Fault.field-0-is at c.in-Err-Fault.ensures in
    let kept : config_fault (record { weights = c.weights.result.now; links = c.links.result.now; adapters = c.adapters.result.now; devices = c.devices.result.now; lanes = [] }) ≡ None =
    rw (c.weights.ensures.same, c.links.ensures.same, c.adapters.ensures.same, c.devices.ensures.same) (without_lanes_kept c.args.config.now c.weights.ensures.kept) in
    let clash : None ≡ Some c.in-Err-Fault.field-0-0 = sym kept ∙ faulty in
    absurd cc
