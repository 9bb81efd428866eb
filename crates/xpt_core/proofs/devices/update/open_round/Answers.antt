use Rattle.std.proofs.Common.{sym, ap, ◌∙◌, slice_set}
use Rattle.std.proofs.lemmas.List.Edits.{map_over_more}
use Rattle.xpt_core.specs.DeviceUpdates.{in_next_round}
use Rattle.xpt_core.proofs.devices.update.open_round.Goals as goal

pub loop-queue-preserved : goal.loop-queue-preserved
loop-queue-preserved c =
    ap (slice_set c.loop-queue.queue-items c.loop-queue.queue-index) (c.next_round.ensures ∙ ap in_next_round (sym c.queue-item.is))
    ∙ map_over_more in_next_round c.deref_mut-queue-items.result.now c.loop-queue.queue-items c.loop-queue.queue-index c.queue-item.result
    c.loop-queue-test.true c.loop-queue.invariant c.queue-item.is
