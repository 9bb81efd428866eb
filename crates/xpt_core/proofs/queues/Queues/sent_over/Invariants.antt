use Rattle.std.proofs.Common.{◌≡◌}
use Rattle.xpt_core.proofs.LinkLemmas.{sent_by}
use Rattle.xpt_core.proofs.queues.Queues.sent_over.Given as goal

-- what the adapters so far sent over the link
abbrev pub invariant-loop-adapter : goal.invariant-loop-adapter
invariant-loop-adapter l = l.sent ≡ sent_by l.self.config l.self.events l.link l.adapter
