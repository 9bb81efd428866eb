use Rattle.capture.proofs.SpanBoundLemmas.{within_of, longest_of, none_of}
use Rattle.capture.proofs.span_bounds.span_within.Goals as goal

pub returns-clause-within : goal.returns-clause-within
returns-clause-within c = within_of c.args.nanoseconds c.most_within.result c.span_of.result c.most_within.ensures c.span_of.ensures.same

pub returns-clause-longest : goal.returns-clause-longest
returns-clause-longest c = longest_of c.args.nanoseconds c.most_within.result c.span_of.result c.most_within.ensures c.span_of.ensures.same

pub returns-clause-none : goal.returns-clause-none
returns-clause-none c = none_of c.args.nanoseconds c.most_within.result c.span_of.result c.most_within.ensures c.span_of.ensures.none
