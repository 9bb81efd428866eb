use Rattle.std.proofs.Common.{arith, ap, sym, subst, length, ◌++◌, ◌∷◌, [], ◌∙◌}
use Rattle.std.specs.List.{range_with_len}
use Rattle.std.proofs.lemmas.List.{length-map}
use Rattle.std.proofs.lemmas.List.FromFn.{length-range_with_len}
use Rattle.std.specs.List.Sorted.{IsStrictlyIncreasing}
use Rattle.cam_types.specs.Questions.{is_on}
use Rattle.sim_queue.proofs.RowLemmas.{rising-filter, different-rising}
use Rattle.xpt_core.specs.Known.{nothing, adapter_of}
use Rattle.cam_types.proofs.ConfigLemmas.{few_adapters}
use Rattle.xpt_core.proofs.OpenLemmas.{adapter_more}
use Rattle.xpt_core.proofs.queues.open.open_queues.Goals as goal

pub overflow_cast-adapter : goal.overflow_cast-adapter
overflow_cast-adapter c =
    omega (arith, c.loop-adapter-test.true, ap length c.adapters-adapters.ensures.same, few_adapters c.args.config.now c.adapters-adapters.ensures.kept)

pub open-requires : goal.open-requires
open-requires c =
    different-rising _
    (subst IsStrictlyIncreasing (sym (c.deref.ensures.value ∙ c.in_ok-devices.ensures)) (rising-filter (is_on c.args.config.now c.loop-adapter.adapter) (length c.args.config.now.devices)))

pub push_reserved-requires : goal.push_reserved-requires
push_reserved-requires c =
    omega (arith, c.loop-adapter.sims.ok.0, ap length c.loop-adapter.invariant.so_far, length-map (range_with_len 0 c.loop-adapter.adapter) (adapter_of c.args.config.now nothing), length-range_with_len 0 c.loop-adapter.adapter, c.loop-adapter-test.true, c.loop-adapter.invariant.room)

pub loop-adapter-preserved : goal.loop-adapter-preserved
loop-adapter-preserved c = record {
  so_far = c.push_reserved.ensures.items ∙ ap (λ s. c.loop-adapter.sims.items ++ s ∷ []) c.in_ok-open.ensures
      ∙ adapter_more c.args.config.now c.loop-adapter.adapter c.adapters-adapters.result.now c.deref.result.now _ c.loop-adapter.sims.items c.adapters-adapters.ensures.same c.loop-adapter-test.true
      (c.deref.ensures.value ∙ c.in_ok-devices.ensures) c.loop-adapter.invariant.so_far;
  room = omega (arith, c.push_reserved.ensures.capacity, c.loop-adapter.invariant.room);
}
