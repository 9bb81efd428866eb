use Rattle.xpt_core.specs.DeviceUpdates.{HasRoom}
use Rattle.xpt_core.proofs.PlaceLemmas.{has_at, written_at}
use Rattle.xpt_core.proofs.devices.update.insert.Goals as goal

pub put_in-requires-clause-has : goal.put_in-requires-clause-has
put_in-requires-clause-has c = has_at HasRoom c.args.queues.now.items c.args.device c.index_mut-queue.result.now c.requires.has c.index_mut-queue.ensures.value

pub returns : goal.returns
returns c = written_at _ c.args.queues.now.items c.args.device c.index_mut-queue.result.now _ c.requires.has.there c.index_mut-queue.ensures.value c.put_in.ensures
