use Rattle.std.proofs.Common.{◌∙◌}
use Rattle.wait_causes.proofs.OriginLemmas.{trace_cause}
use Rattle.wait_causes.proofs.origin.Origin.cause.Goals as goal

pub returns-in-Trace : goal.returns-in-Trace
returns-in-Trace c = c.cause.ensures ∙ trace_cause c.in-Trace.table c.args.self.now c.args.device c.args.round c.in-Trace.is c.requires.device
