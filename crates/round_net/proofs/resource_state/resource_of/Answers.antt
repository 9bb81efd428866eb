use Rattle.std.proofs.Common.{◌≤◌, length, arith}
use Rattle.cam_types.specs.declared.limits.TheConstants.{MAX_ADAPTERS}
use Rattle.cam_types.proofs.ConfigLemmas.{few_adapters}
use Rattle.round_net.proofs.resource_state.resource_of.Goals as goal

pub overflow_cast-adapters : goal.overflow_cast-adapters
overflow_cast-adapters c =
    let few : length c.adapters.result.now ≤ MAX_ADAPTERS = rw c.adapters.ensures.same (few_adapters c.args.config.now c.adapters.ensures.kept) in
    omega arith

pub overflow_add-devices : goal.overflow_add-devices
overflow_add-devices c =
    let few : length c.adapters.result.now ≤ MAX_ADAPTERS = rw c.adapters.ensures.same (few_adapters c.args.config.now c.adapters.ensures.kept) in
    omega (arith, c.devices.ensures.few)
