use Rattle.std.proofs.Common.{◌≤◌, ◌∙◌, refl}
use Rattle.capture.specs.Rounds.{Span, span_nanoseconds}
use Rattle.capture.specs.Spans.{span_from}
use Rattle.capture.proofs.SpanLemmas.{or_holds}
use Rattle.capture.proofs.SpanBoundLemmas.{from_of, some_of}
use Rattle.capture.proofs.span_bounds.span_from.Goals as goal

pub returns-clause-same : goal.returns-clause-same
unfolding span_from
returns-clause-same c = c.unwrap_or.ensures ∙ rw (c.or-3.ensures, c.or-2.ensures, c.or.ensures, c.span_up_in.ensures.same, c.span_up_in-2.ensures.same, c.span_up_in-3.ensures.same, c.span_up_in-4.ensures.same) refl

pub returns-clause-from : goal.returns-clause-from
returns-clause-from c =
    let P = λ (s : Span). c.args.nanoseconds ≤ span_nanoseconds s in
    from_of c.args.nanoseconds c.or-3.result c.unwrap_or.result c.unwrap_or.ensures
    (or_holds P _ _ _ c.or-3.ensures (or_holds P _ _ _ c.or-2.ensures (or_holds P _ _ _ c.or.ensures c.span_up_in.ensures.from c.span_up_in-2.ensures.from) c.span_up_in-3.ensures.from) c.span_up_in-4.ensures.from)

pub returns-clause-some : goal.returns-clause-some
returns-clause-some c =
    let P = λ (s : Span). 1 ≤ s.count in
    some_of c.or-3.result c.unwrap_or.result c.unwrap_or.ensures
    (or_holds P _ _ _ c.or-3.ensures (or_holds P _ _ _ c.or-2.ensures (or_holds P _ _ _ c.or.ensures c.span_up_in.ensures.some c.span_up_in-2.ensures.some) c.span_up_in-3.ensures.some) c.span_up_in-4.ensures.some)
