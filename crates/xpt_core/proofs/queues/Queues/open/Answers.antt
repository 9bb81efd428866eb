use Rattle.std.proofs.Common.{ap, sym, ◌∙◌}
use Rattle.xpt_core.proofs.OpenLemmas.{known-nothing}
use Rattle.xpt_core.proofs.SimLemmas.{queues_of}
use Rattle.xpt_core.proofs.queues.Queues.open.Goals as goal

pub invariant_of-result : goal.invariant_of-result
invariant_of-result c = c.in_ok-sims.ensures ∙ known-nothing c.args.config ∙ ap queues_of (sym c.in_ok-devices.ensures)
