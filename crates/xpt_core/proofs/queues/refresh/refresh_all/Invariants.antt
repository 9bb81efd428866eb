use Rattle.xpt_core.proofs.ReadyLemmas.{SoFar}
use Rattle.xpt_core.proofs.queues.refresh.refresh_all.Given as goal

abbrev pub invariant-loop-device : goal.invariant-loop-device
invariant-loop-device l = SoFar l.devices.config l.devices.events l.initial.sims.items l.device l.sims.items
