use Rattle.std.proofs.Common.{length, ap, arith}
use Rattle.std.proofs.lemmas.List.{length-map}
use Rattle.capture.specs.Rounds.{request_in}
use Rattle.capture.proofs.RoundLemmas.{started_fit, starts_within, arrivals_within, all_in_rounds, size_fits}
use Rattle.capture.proofs.capture.Capture.of.Goals as goal

pub requests_in-requires-clause-arrivals : goal.requests_in-requires-clause-arrivals
requests_in-requires-clause-arrivals c =
    let taken = c.in_ok-taken.taken.items in
    let some = c.span_nanoseconds-span.ensures.some c.requires in
    rw (c.in_ok-rounds.ensures.rounds, c.first_arrival.ensures, c.deref.ensures.value, c.deref-2.ensures.value, c.deref-3.ensures.value) (arrivals_within c.span_nanoseconds-span.result taken some (rw c.in_ok-taken.ensures.taken (started_fit c.args.requests.now c.in_ok-check_requests.ensures.ok)))

pub requests_in-requires-clause-starts : goal.requests_in-requires-clause-starts
requests_in-requires-clause-starts c =
    let taken = c.in_ok-taken.taken.items in
    let some = c.span_nanoseconds-span.ensures.some c.requires in
    rw (c.in_ok-rounds.ensures.rounds, c.first_arrival.ensures, c.deref.ensures.value, c.deref-2.ensures.value, c.deref-3.ensures.value) (starts_within c.span_nanoseconds-span.result taken some)

pub check_crowds-requires-clause-within : goal.check_crowds-requires-clause-within
check_crowds-requires-clause-within c =
    let taken = c.in_ok-taken.taken.items in
    let some = c.span_nanoseconds-span.ensures.some c.requires in
    rw (c.deref-4.ensures.value, c.in_ok-requests.ensures, c.in_ok-rounds.ensures.rounds, c.first_arrival.ensures, c.deref.ensures.value, c.deref-2.ensures.value, c.deref-3.ensures.value) (all_in_rounds c.span_nanoseconds-span.result taken some (rw c.in_ok-taken.ensures.taken (started_fit c.args.requests.now c.in_ok-check_requests.ensures.ok)))

pub check_crowds-requires-clause-few : goal.check_crowds-requires-clause-few
check_crowds-requires-clause-few c =
    let size = size_fits _ _ c.in_ok-rounds.ensures.ok in
    let many = size.many in
    rw (c.deref-4.ensures.value, c.in_ok-requests.ensures) (omega (arith, length-map c.deref-3.result.now (request_in c.span_nanoseconds-span.result c.first_arrival.result c.in_ok-rounds.rounds), ap length c.deref-3.ensures.value, ap length c.deref.ensures.value))

pub invariant_of-result : goal.invariant_of-result
invariant_of-result c =
    let taken = c.in_ok-taken.taken.items in
    let some = c.span_nanoseconds-span.ensures.some c.requires in
    let size = size_fits _ _ c.in_ok-rounds.ensures.ok in
    let many = size.many in
    let few = size.short in
    record {
      unit = c.requires;
      some = rw c.in_ok-rounds.ensures.rounds (omega arith);
      rounds = rw c.in_ok-rounds.ensures.rounds few;
      many = rw c.in_ok-requests.ensures (omega (arith, length-map c.deref-3.result.now (request_in c.span_nanoseconds-span.result c.first_arrival.result c.in_ok-rounds.rounds), ap length c.deref-3.ensures.value, ap length c.deref.ensures.value));
      requests = rw (c.in_ok-requests.ensures, c.in_ok-rounds.ensures.rounds, c.first_arrival.ensures, c.deref.ensures.value, c.deref-2.ensures.value, c.deref-3.ensures.value) (all_in_rounds c.span_nanoseconds-span.result taken some (rw c.in_ok-taken.ensures.taken (started_fit c.args.requests.now c.in_ok-check_requests.ensures.ok)));
      crowds = rw (← c.deref-4.ensures.value) c.in_ok-check_crowds.ensures.crowds;
    }
