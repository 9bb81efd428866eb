use Rattle.std.proofs.Common.{◌≡◌, ◌≤◌, ◌∙◌, refl}
use Rattle.capture.specs.Rounds.{Span, span_nanoseconds}
use Rattle.capture.proofs.SpanLemmas.{or_holds, first_unit, no_span}
use Rattle.capture.proofs.span_time.span_of.Goals as goal

pub returns-clause-span : goal.returns-clause-span
returns-clause-span c = first_unit c.args.nanoseconds c.or-3.result (c.or-3.ensures ∙ rw (c.or-2.ensures, c.or.ensures, c.span_in.ensures.span, c.span_in-2.ensures.span, c.span_in-3.ensures.span, c.span_in-4.ensures.span) refl)

pub returns-clause-same : goal.returns-clause-same
returns-clause-same c =
    let P = λ (s : Span). span_nanoseconds s ≡ c.args.nanoseconds in
    or_holds P _ _ _ c.or-3.ensures (or_holds P _ _ _ c.or-2.ensures (or_holds P _ _ _ c.or.ensures c.span_in.ensures.same c.span_in-2.ensures.same) c.span_in-3.ensures.same) c.span_in-4.ensures.same

pub returns-clause-some : goal.returns-clause-some
returns-clause-some c =
    let P = λ (s : Span). 1 ≤ s.count in
    or_holds P _ _ _ c.or-3.ensures (or_holds P _ _ _ c.or-2.ensures (or_holds P _ _ _ c.or.ensures c.span_in.ensures.some c.span_in-2.ensures.some) c.span_in-3.ensures.some) c.span_in-4.ensures.some

pub returns-clause-none : goal.returns-clause-none
returns-clause-none c = no_span c.args.nanoseconds c.or-3.result (returns-clause-span c)
