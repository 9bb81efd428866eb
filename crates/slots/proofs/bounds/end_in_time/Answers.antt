use Rattle.slots.proofs.BoundLemmas.{end_in_time-fits, end_in_time-over}
use Rattle.slots.proofs.bounds.end_in_time.Goals as goal

pub returns-then-end : goal.returns-then-end
returns-then-end c = end_in_time-fits c.args.span.now c.max-end.result c.max-end.ensures c.if-end.true

pub returns-else-end : goal.returns-else-end
returns-else-end c = end_in_time-over c.args.span.now c.max-end.result c.max-end.ensures c.if-end.false
