use Rattle.std.proofs.Common.{◌≡◌, ◌==◌, ◌≤◌, subst, sym, ap, ◌∙◌, arith}
use Rattle.capture.specs.Timed.{started}
use Rattle.capture.specs.Rounds.{Span, Rounded, span_nanoseconds, rounds_of}
use Rattle.capture.specs.Rooms.{DeviceFlight}
use Rattle.capture.proofs.RequestLemmas.{few_kept}
use Rattle.capture.proofs.RoomLemmas.{waits_end}
use Rattle.capture.proofs.capture.Capture.room.Goals as goal

pub slots_of-requires : goal.slots_of-requires
slots_of-requires c =
    record { few = rw (c.deref.ensures.value, c.in_ok-own.ensures) (omega (arith, few_kept (λ (f : DeviceFlight). f.device == c.args.device) (λ (f : DeviceFlight). f.flight) c.args.flights.now, c.requires.few)) }

pub spare_starts-requires-clause-few : goal.spare_starts-requires-clause-few
spare_starts-requires-clause-few c =
    rw (c.deref-2.ensures.value, c.in_ok-own.ensures) (omega (arith, few_kept (λ (f : DeviceFlight). f.device == c.args.device) (λ (f : DeviceFlight). f.flight) c.args.flights.now, c.requires.few))

pub spare_starts-requires-clause-begin : goal.spare_starts-requires-clause-begin
spare_starts-requires-clause-begin c = rw c.deref-3.ensures.value c.in_ok-begin.ensures.first

pub spare_starts-requires-clause-rounds : goal.spare_starts-requires-clause-rounds
spare_starts-requires-clause-rounds c =
    let span : c.span_nanoseconds-span.result ≡ span_nanoseconds c.args.self.now.unit = c.span_nanoseconds-span.ensures.same ∙ ap span_nanoseconds c.round.ensures.same in
    let some : 1 ≤ c.span_nanoseconds-span.result = c.span_nanoseconds-span.ensures.some (subst (λ (s : Span). 1 ≤ s.count) (sym c.round.ensures.same) c.rounds.ensures.kept.unit) in
    let rounds : c.rounds.result ≡ rounds_of c.span_nanoseconds-span.result (started c.args.requests.now) =
    c.rounds.ensures.same ∙ ap (λ (r : Rounded). r.rounds) c.requires.capture ∙ ap (λ s. rounds_of s (started c.args.requests.now)) (sym span) in
    rw (rounds, c.deref-3.ensures.value, c.in_ok-begin.ensures.begin, c.in_ok-begin.ensures.list) (waits_end c.span_nanoseconds-span.result (started c.args.requests.now) c.args.device some)
