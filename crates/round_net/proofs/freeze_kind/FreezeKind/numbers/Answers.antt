use Rattle.std.proofs.Common.{ap, arith, length}
use Rattle.cam_types.proofs.ConfigLemmas.{few_adapters}
use Rattle.round_net.proofs.freeze_kind.FreezeKind.numbers.Goals as goal

pub overflow_cast-result-in-Adapter : goal.overflow_cast-result-in-Adapter
overflow_cast-result-in-Adapter c =
    let few = few_adapters c.args.config.now c.adapters.ensures.kept in
    omega (arith, ap length c.adapters.ensures.same, few)
