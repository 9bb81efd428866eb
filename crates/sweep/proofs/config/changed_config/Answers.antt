use Rattle.std.proofs.Common.{◌≡◌, ◌∙◌, sym, Some, None}
use Rattle.cam_types.specs.Topology.{config_fault}
use Rattle.sweep.proofs.FaultLemmas.{changed_kept}
use Rattle.sweep.proofs.config.changed_config.Goals as goal

pub unreachable-requires : goal.unreachable-requires
unreachable-requires c =
    let faulty = rw c.in-Err-Fault.field-0-is at c.in-Err-Fault.ensures in
    let kept : config_fault (record { weights = c.weights.result.now; links = c.links.result.now; adapters = c.deref.result.now; devices = c.deref-2.result.now; lanes = c.lanes.result.now }) ≡ None =
    rw (c.weights.ensures.same, c.links.ensures.same, c.lanes.ensures.same, c.deref.ensures.value, c.deref-2.ensures.value, c.in_ok-adapters.ensures, c.in_ok-devices.ensures, c.adapters.ensures.same, c.devices.ensures.same)
    (changed_kept c.args.config.now c.args.changes.now c.weights.ensures.kept c.requires) in
    let clash : None ≡ Some c.in-Err-Fault.field-0-0 = sym kept ∙ faulty in
    absurd cc
