use Rattle.std.proofs.Common.{arith}
use Rattle.cam_types.proofs.ConfigLemmas.{few_adapters, few_links}
use Rattle.capture.proofs.PartLemmas.{parts_joined}
use Rattle.capture.proofs.parts.all_parts.Goals as goal

pub overflow_cast-adapters : goal.overflow_cast-adapters
overflow_cast-adapters c = let same = c.adapters.ensures.same in rw same (omega (arith, few_adapters c.args.config.now c.adapters.ensures.kept))

pub overflow_cast-links : goal.overflow_cast-links
overflow_cast-links c = let same = c.links.ensures.same in rw same (omega (arith, few_links c.args.config.now c.links.ensures.kept))

pub returns-clause-parts : goal.returns-clause-parts
returns-clause-parts c = parts_joined c.args.config.now _ _ _ _ _ _ _ c.devices.ensures.same c.adapters.ensures.same c.links.ensures.same c.new-parts.ensures.items c.in_ok-add_parts.ensures c.in_ok-add_parts-2.ensures c.in_ok-add_parts-3.ensures
