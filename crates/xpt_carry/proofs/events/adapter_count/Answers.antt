use Rattle.std.proofs.Common.{length, ap, arith}
use Rattle.cam_types.proofs.ConfigLemmas.{few_adapters}
use Rattle.xpt_carry.proofs.events.adapter_count.Goals as goal

pub overflow_cast-result : goal.overflow_cast-result
overflow_cast-result c = omega (arith, ap length c.adapters.ensures.same, few_adapters c.args.config.now c.adapters.ensures.kept)
