use Rattle.std.proofs.Common.{length, ap, arith}
use Rattle.std.proofs.lemmas.List.{length-map}
use Rattle.capture.specs.Rounds.{request_in}
use Rattle.capture.proofs.RoundLemmas.{started_fit, starts_before, arrivals_before, all_from, starts_in_time}
use Rattle.capture.proofs.capture.Capture.in_rounds_from.Goals as goal

pub requests_in-requires-clause-arrivals : goal.requests_in-requires-clause-arrivals
requests_in-requires-clause-arrivals c =
    let a = c.args in
    let taken = c.in_ok-taken.taken.items in
    let some = c.span_nanoseconds-span.ensures.some c.requires.span in
    let in_time = starts_in_time _ _ _ c.in_ok-check_starts.ensures.ok in
    let last = in_time.early in
    rw (c.deref-2.ensures.value) (arrivals_before c.span_nanoseconds-span.result a.begin a.rounds taken some (rw c.in_ok-taken.ensures.taken (started_fit a.requests.now c.in_ok-check_requests.ensures.ok)) (rw c.deref.ensures.value at last))

pub requests_in-requires-clause-starts : goal.requests_in-requires-clause-starts
requests_in-requires-clause-starts c =
    let a = c.args in
    let taken = c.in_ok-taken.taken.items in
    let some = c.span_nanoseconds-span.ensures.some c.requires.span in
    let in_time = starts_in_time _ _ _ c.in_ok-check_starts.ensures.ok in
    let last = in_time.early in
    rw (c.deref-2.ensures.value) (starts_before c.span_nanoseconds-span.result a.begin a.rounds taken some (rw c.deref.ensures.value at last))

pub check_crowds-requires-clause-within : goal.check_crowds-requires-clause-within
check_crowds-requires-clause-within c =
    let a = c.args in
    let taken = c.in_ok-taken.taken.items in
    let some = c.span_nanoseconds-span.ensures.some c.requires.span in
    let in_time = starts_in_time _ _ _ c.in_ok-check_starts.ensures.ok in
    let last = in_time.early in
    rw (c.deref-3.ensures.value, c.in_ok-requests.ensures, c.deref-2.ensures.value) (all_from c.span_nanoseconds-span.result a.begin a.rounds taken some (rw c.in_ok-taken.ensures.taken (started_fit a.requests.now c.in_ok-check_requests.ensures.ok)) (rw c.deref.ensures.value at last))

pub check_crowds-requires-clause-few : goal.check_crowds-requires-clause-few
check_crowds-requires-clause-few c =
    let in_time = starts_in_time _ _ _ c.in_ok-check_starts.ensures.ok in
    let many = in_time.many in
    rw (c.deref-3.ensures.value, c.in_ok-requests.ensures) (omega (arith, length-map c.deref-2.result.now (request_in c.span_nanoseconds-span.result c.args.begin c.args.rounds), ap length c.deref-2.ensures.value, ap length c.deref.ensures.value))

pub invariant_of-result : goal.invariant_of-result
invariant_of-result c =
    let a = c.args in
    let taken = c.in_ok-taken.taken.items in
    let some = c.span_nanoseconds-span.ensures.some c.requires.span in
    let in_time = starts_in_time _ _ _ c.in_ok-check_starts.ensures.ok in
    let many = in_time.many in
    let last = in_time.early in
    record {
      unit = c.requires.span;
      some = c.requires.some;
      rounds = c.requires.few;
      many = rw c.in_ok-requests.ensures (omega (arith, length-map c.deref-2.result.now (request_in c.span_nanoseconds-span.result a.begin a.rounds), ap length c.deref-2.ensures.value, ap length c.deref.ensures.value));
      requests = rw (c.in_ok-requests.ensures, c.deref-2.ensures.value) (all_from c.span_nanoseconds-span.result a.begin a.rounds taken some (rw c.in_ok-taken.ensures.taken (started_fit a.requests.now c.in_ok-check_requests.ensures.ok)) (rw c.deref.ensures.value at last));
      crowds = rw (← c.deref-3.ensures.value) c.in_ok-check_crowds.ensures.crowds;
    }
