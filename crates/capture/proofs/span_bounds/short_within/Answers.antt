use Rattle.std.proofs.Common.{◌/◌, ◌*◌, ◌∙◌, refl}
use Rattle.capture.specs.Spans.{short_within}
use Rattle.capture.proofs.SpanBoundLemmas.{short_within_of, near_within}
use Rattle.capture.proofs.span_bounds.short_within.Goals as goal

pub returns-clause-same : goal.returns-clause-same
unfolding short_within
returns-clause-same c = c.span_of.ensures.span ∙ rw (c.unit_nanoseconds-size.ensures.same, c.unit_for.ensures) refl

pub returns-clause-within : goal.returns-clause-within
returns-clause-within c =
    let n = c.args.nanoseconds in
    short_within_of n (n / c.unit_nanoseconds-size.result * c.unit_nanoseconds-size.result) c.span_of.result (rw (c.unit_nanoseconds-size.ensures.same, c.unit_for.ensures) refl) c.span_of.ensures.same

pub returns-clause-near : goal.returns-clause-near
returns-clause-near c =
    let n = c.args.nanoseconds in
    near_within n (n / c.unit_nanoseconds-size.result * c.unit_nanoseconds-size.result) c.span_of.result (rw (c.unit_nanoseconds-size.ensures.same, c.unit_for.ensures) refl) c.span_of.ensures.same c.span_of.ensures.some
