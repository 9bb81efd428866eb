use Rattle.std.proofs.Common.{◌*◌, ◌∙◌, refl}
use Rattle.capture.specs.Spans.{short_from}
use Rattle.capture.proofs.SpanBoundLemmas.{short_from_of, near_from}
use Rattle.capture.proofs.span_bounds.short_from.Goals as goal

pub returns-clause-same : goal.returns-clause-same
unfolding short_from
returns-clause-same c = c.span_of.ensures.span ∙ rw (c.count_from.ensures, c.unit_nanoseconds.ensures.same, c.unit_for-unit.ensures) refl

pub returns-clause-from : goal.returns-clause-from
returns-clause-from c = short_from_of c.args.nanoseconds (c.count_from.result * c.unit_nanoseconds.result) c.span_of.result (rw (c.count_from.ensures, c.unit_nanoseconds.ensures.same, c.unit_for-unit.ensures) refl) c.span_of.ensures.same

pub returns-clause-near : goal.returns-clause-near
returns-clause-near c = near_from c.args.nanoseconds (c.count_from.result * c.unit_nanoseconds.result) c.span_of.result (rw (c.count_from.ensures, c.unit_nanoseconds.ensures.same, c.unit_for-unit.ensures) refl) c.span_of.ensures.same c.span_of.ensures.some
