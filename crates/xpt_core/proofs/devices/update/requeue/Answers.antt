use Rattle.std.proofs.Common.{not}
use Rattle.xpt_core.specs.DeviceUpdates.{HasRoom, HasError}
use Rattle.xpt_core.proofs.PlaceLemmas.{has_at, written_at}
use Rattle.xpt_core.proofs.devices.update.requeue.Goals as goal

pub put_back-requires-clause-has : goal.put_back-requires-clause-has
put_back-requires-clause-has c =
    (has_at (λ q. HasRoom q × HasError (not c.args.submission.flags.qfrzdis) q) c.args.queues.now.items c.args.submission.device c.index_mut-queue.result.now c.requires.has c.index_mut-queue.ensures.value).0

pub put_back-requires-clause-stands : goal.put_back-requires-clause-stands
put_back-requires-clause-stands c =
    (has_at (λ q. HasRoom q × HasError (not c.args.submission.flags.qfrzdis) q) c.args.queues.now.items c.args.submission.device c.index_mut-queue.result.now c.requires.has c.index_mut-queue.ensures.value).1

pub returns : goal.returns
returns c = written_at _ c.args.queues.now.items c.args.submission.device c.index_mut-queue.result.now _ c.requires.has.there c.index_mut-queue.ensures.value c.put_back.ensures
