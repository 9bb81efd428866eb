use Rattle.std.proofs.Common.{sym, ap, ◌∙◌, slice_set}
use Rattle.std.proofs.lemmas.List.Edits.{map_over_more}
use Rattle.xpt_core.specs.AdapterUpdates.{in_next_round}
use Rattle.xpt_core.proofs.queues.update.open_round.Goals as goal

pub loop-sim-preserved : goal.loop-sim-preserved
loop-sim-preserved c =
    ap (slice_set c.loop-sim.sim-items c.loop-sim.sim-index) (c.next_round.ensures ∙ ap in_next_round (sym c.sim-item.is))
    ∙ map_over_more in_next_round c.deref_mut-sim-items.result.now c.loop-sim.sim-items c.loop-sim.sim-index c.sim-item.result
    c.loop-sim-test.true c.loop-sim.invariant c.sim-item.is
