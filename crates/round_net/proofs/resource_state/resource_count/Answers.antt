use Rattle.std.proofs.Common.{◌≤◌, length, arith}
use Rattle.cam_types.specs.declared.limits.TheConstants.{MAX_ADAPTERS, MAX_LINKS}
use Rattle.cam_types.proofs.ConfigLemmas.{few_adapters, few_links}
use Rattle.round_net.proofs.resource_state.resource_count.Goals as goal

pub overflow_cast-result-2 : goal.overflow_cast-result-2
overflow_cast-result-2 c =
    let few : length c.adapters.result.now ≤ MAX_ADAPTERS = rw c.adapters.ensures.same (few_adapters c.args.config.now c.adapters.ensures.kept) in
    omega arith

pub overflow_cast-result-3 : goal.overflow_cast-result-3
overflow_cast-result-3 c =
    let few : length c.links.result.now ≤ MAX_LINKS = rw c.links.ensures.same (few_links c.args.config.now c.links.ensures.kept) in
    omega arith

pub overflow_add-result : goal.overflow_add-result
overflow_add-result c =
    let few : length c.adapters.result.now ≤ MAX_ADAPTERS = rw c.adapters.ensures.same (few_adapters c.args.config.now c.adapters.ensures.kept) in
    omega (arith, c.devices.ensures.few)

pub overflow_add-result-2 : goal.overflow_add-result-2
overflow_add-result-2 c =
    let few : length c.adapters.result.now ≤ MAX_ADAPTERS = rw c.adapters.ensures.same (few_adapters c.args.config.now c.adapters.ensures.kept) in
    let few_links' : length c.links.result.now ≤ MAX_LINKS = rw c.links.ensures.same (few_links c.args.config.now c.links.ensures.kept) in
    omega (arith, c.devices.ensures.few)
